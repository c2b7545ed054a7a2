use Rattle.std.proofs.Common.{◌≡◌, map, take}
use Rattle.std.specs.Prelude.{◌==◌, slice_index}
use Rattle.fib_loops.proofs.marks.marks_of.Given as goal

abbrev pub invariant-loop-from : goal.invariant-loop-from
invariant-loop-from l = l.looped.items ≡ map (λ e. slice_index l.parts e.0 == slice_index l.parts e.1) (take l.from-index l.edges)
