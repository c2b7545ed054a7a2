use Rattle.std.proofs.Common.{◌≡◌, ◌++◌, map, length}
use Rattle.std.specs.Vec.Iter.{into_iter_items, into_iter_len}
use Rattle.fib_follow_plan.specs.Made.{marks_of}
use Rattle.fib_follow_plan.proofs.lists.marks.Given as goal

abbrev pub invariant-loop-body : goal.invariant-loop-body
invariant-loop-body l = record {
  whole : l.out ++ map (marks_of l.view l.part l.ranks) (into_iter_items l.body-iterator) ≡ map (marks_of l.view l.part l.ranks) l.fn.bodies;
  left : into_iter_len l.body-iterator ≡ length (into_iter_items l.body-iterator);
}
