use Rattle.std.proofs.Common.{arith}
use Rattle.fib_capture.proofs.Reading.{one_more, left_more, all_read}
use Rattle.fib_capture.proofs.read.read_records.Goals as goal

pub loop-frame-preserved : goal.loop-frame-preserved
loop-frame-preserved c = record {
  told = one_more _ _ _ _ _ _ _ _ _ c.loop-frame.invariant.told c.in_ok-push.ensures.items c.in-Some.ensures.value c.packet_of.ensures;
  left = left_more _ _ _ _ _ c.loop-frame.invariant.left c.in-Some.ensures.value;
  few = omega (arith, c.in_ok-push.ensures.len);
}

pub returns : goal.returns
returns c = all_read _ _ _ _ _ _ _ c.loop-frame.invariant.told c.loop-frame.invariant.left c.in_default.ensures.value c.is_empty.ensures c.of_packets.ensures
