use Rattle.std.proofs.Common.{◌≡◌, ◌++◌, length}
use Rattle.std.specs.Vec.Iter.{into_iter_items, into_iter_len}
use Rattle.fib_base_blocks.proofs.list.Blocks.of.Given as goal

abbrev pub invariant-loop-element : goal.invariant-loop-element
invariant-loop-element g l = (l.out ++ into_iter_items l.element-iterator ≡ into_iter_items l.initial.element-iterator)
    × (into_iter_len l.element-iterator ≡ length (into_iter_items l.element-iterator))
