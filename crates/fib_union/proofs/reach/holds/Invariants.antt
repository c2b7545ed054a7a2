use Rattle.std.proofs.Common.{◌≡◌, ℕ, ◌+◌, ◌*◌, ◌<◌, Some}
use Rattle.fib_union.specs.Unions.{edge_at}
use Rattle.fib_union.proofs.reach.holds.Given as goal

abbrev pub invariant-loop-slot : goal.invariant-loop-slot
invariant-loop-slot l = (s : ℕ) → s < l.slot → edge_at l.edges (16 * l.node + s) ≡ Some l.to → ⊥
