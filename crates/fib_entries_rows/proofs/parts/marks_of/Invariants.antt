use Rattle.std.proofs.Common.{◌≡◌, map, take}
use Rattle.fib_resolve.specs.Loops.{looped_kind}
use Rattle.fib_entries_rows.proofs.parts.marks_of.Given as goal

abbrev pub invariant-loop-place : goal.invariant-loop-place
invariant-loop-place l = l.out.items ≡ map (λ p. looped_kind l.meaning l.e p.kind) (take l.place l.paths)
