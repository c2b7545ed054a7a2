use Rattle.std.proofs.Common.{◌≤◌, ◌-◌, length, take}
use Rattle.fib_outside.specs.Outside.{Appends}
use Rattle.fib_frames.specs.Frames.{expired_text}
use Rattle.fib_frames.proofs.send.write_expired.Given as goal

abbrev pub invariant-pieces : goal.invariant-pieces
invariant-pieces g l = record {
  within : l.at ≤ length l.results;
  written : Appends (g.K.Sink.written l.fn.text) (g.K.Sink.written l.text) (expired_text l.seen.bytes.items l.seen.spans (take l.at l.results));
  counted : g.K.Sink.faults l.fn.text ≤ g.K.Sink.faults l.text;
}

abbrev pub decreases-pieces : goal.decreases-pieces
decreases-pieces g l = length l.results - l.at
