use Rattle.std.proofs.Common.{◌≡◌, length, take}
use Rattle.fib_loops.specs.inner.Parting.{take_all}
use Rattle.fib_loops.proofs.part.take_in.Given as goal

abbrev pub invariant-loop-source : goal.invariant-loop-source
invariant-loop-source l = record {
  parts_len : length l.parts.items ≡ length l.fn.parts.items;
  parts : l.parts.items ≡ (take_all l.number l.fn.parts.items l.fn.members.items (take l.source-index l.sources)).0;
  members : l.members.items ≡ (take_all l.number l.fn.parts.items l.fn.members.items (take l.source-index l.sources)).1;
}
