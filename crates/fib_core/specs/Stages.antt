-- A stage as a place of the walk.
use Rattle.std.specs.Prelude.{◌≡◌, ℕ, [], Option, Some, None}
use Rattle.fib_resolve.specs.declared.types.End.{End}
use Rattle.fib_core.specs.Walk.{Place, ply, balance, adjacency, ended, halved}
use Rattle.fib_core.specs.declared.stage.Stage.{Stage}
use Rattle.fib_core.specs.declared.stage.Stage.TheVariants as stages

-- of a packet with the flow hash h
abbrev pub StandsAt : ℕ → Place → Stage → Type 0
StandsAt h p (stages.Ply o d) = p ≡ ply o d
StandsAt h p (stages.Balance o left) = (n : ℕ) × (p ≡ balance o n) × (halved h n ≡ left)
StandsAt h p (stages.Adjacency o) = p ≡ adjacency o []
StandsAt h p (stages.Ended e) = p ≡ ended e

-- the end that a walk has there
abbrev pub end_in : Place → Option End
end_in (ended e) = Some e
end_in (ply o d) = None
end_in (balance o n) = None
end_in (adjacency o read) = None
