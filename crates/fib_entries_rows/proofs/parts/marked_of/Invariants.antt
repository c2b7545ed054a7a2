use Rattle.std.proofs.Common.{◌≡◌, map, take}
use Rattle.fib_resolve.specs.Aims.{marked}
use Rattle.fib_entries_rows.proofs.parts.marked_of.Given as goal

abbrev pub invariant-loop-place : goal.invariant-loop-place
invariant-loop-place l = l.out.items ≡ map (λ p. marked l.meaning l.e p) (take l.place l.paths)
