use Rattle.std.proofs.Common.{◌≤◌, ◌-◌, length, take}
use Rattle.fib_outside.specs.Outside.{Appends}
use Rattle.fib_frames.specs.Frames.{records_in}
use Rattle.fib_frames.proofs.send.write_records.Given as goal

abbrev pub invariant-pieces : goal.invariant-pieces
invariant-pieces g l = record {
  within : l.at ≤ length l.results;
  written : Appends (g.F.Sink.written l.fn.frames) (g.F.Sink.written l.frames) (records_in l.seen.bytes.items l.seen.spans (take l.at l.results));
  counted : g.F.Sink.faults l.fn.frames ≤ g.F.Sink.faults l.frames;
}

abbrev pub decreases-pieces : goal.decreases-pieces
decreases-pieces g l = length l.results - l.at
