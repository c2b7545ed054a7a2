use Rattle.std.proofs.Common.{◌≡◌, take}
use Rattle.fib_base_list.proofs.duplicate.ListDuplicate.duplicate.Given as goal

abbrev pub invariant-loop-item : goal.invariant-loop-item
invariant-loop-item g l = l.copied ≡ take l.item-index l.self
