use Rattle.std.proofs.Common.{◌≡◌, take}
use Rattle.fib_base_blocks.proofs.copies.BlocksDuplicate.duplicate.Given as goal

abbrev pub invariant-loop-place : goal.invariant-loop-place
invariant-loop-place g l = l.copied ≡ take l.place l.self
