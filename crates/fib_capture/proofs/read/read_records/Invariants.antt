use Rattle.std.proofs.Common.{◌≡◌, ◌<◌, ◌^◌, ◌++◌, map, length, vec_len}
use Rattle.fib_capture.specs.Captures.{frames_of, left_of, packet_of}
use Rattle.fib_capture.proofs.read.read_records.Given as goal

abbrev pub invariant-loop-frame : goal.invariant-loop-frame
invariant-loop-frame l = record {
  told : l.packets.items ++ map (packet_of l.link) (frames_of l.order l.rest) ≡ map (packet_of l.link) (frames_of l.order l.bytes);
  left : left_of l.order l.rest ≡ left_of l.order l.bytes;
  few : vec_len l.packets < 2 ^ 32;
}

abbrev pub decreases-loop-frame : goal.decreases-loop-frame
decreases-loop-frame l = length l.rest
