use Rattle.std.proofs.Common.{◌≡◌, ◌-◌, ◌≤◌, length}
use Rattle.std.specs.Prelude.{vec_capacity}
use Rattle.std.specs.List.{AllByRecursion}
use Rattle.fib_base_ordered.specs.inner.Blocks.{AreRoomy, IsIdle}
use Rattle.fib_base_ordered.proofs.set.make_room.Given as goal

abbrev pub invariant-loop-alloc : goal.invariant-loop-alloc
invariant-loop-alloc g l = record {
  same : l.blocks.items ≡ l.initial.blocks.items;
  empty : AllByRecursion IsIdle l.idle.items;
  more : length l.initial.idle.items ≤ length l.idle.items;
  roomy : AreRoomy l.blocks.items l.idle.items (vec_capacity l.blocks) (vec_capacity l.idle);
}

abbrev pub decreases-loop-alloc : goal.decreases-loop-alloc
decreases-loop-alloc g l = l.wanted - length l.idle.items
