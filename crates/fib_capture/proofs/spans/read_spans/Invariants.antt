use Rattle.std.proofs.Common.{◌≡◌, ◌≤◌, ◌+◌, ◌++◌, length, vec_len}
use Rattle.fib_capture.specs.Captures.{frames_of}
use Rattle.fib_capture.specs.Spans.{spans_from}
use Rattle.fib_capture.proofs.spans.read_spans.Given as goal

abbrev pub invariant-loop-frame : goal.invariant-loop-frame
invariant-loop-frame l = record {
  told : l.spans.items ++ spans_from l.link l.at (frames_of l.order l.rest) ≡ spans_from l.link 24 (frames_of l.order l.bytes);
  place : l.at + length l.rest ≡ 24 + length l.bytes;
  few : vec_len l.spans ≤ l.at;
}

abbrev pub decreases-loop-frame : goal.decreases-loop-frame
decreases-loop-frame l = length l.rest
