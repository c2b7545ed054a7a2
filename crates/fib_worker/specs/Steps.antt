-- What a hop makes of a pass.
use Rattle.fib_worker.specs.declared.step.Step.{Step}
use Rattle.fib_worker.specs.declared.step.Step.TheVariants as steps
use Rattle.fib_worker.specs.Passes.{FoundEdge, IsHop, Passing}

-- a pass goes on exactly where it loaded an edge
abbrev pub HopsTo : Passing → Step → Type 0
HopsTo old (steps.More p) = IsHop old p × FoundEdge p.seat.worker.trail
HopsTo old (steps.Finish d) = IsHop old d × (FoundEdge d.seat.worker.trail → ⊥)
