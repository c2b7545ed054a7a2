use Rattle.std.proofs.Common.{sym}
use Rattle.fib_capture.proofs.Spanning.{spans_of_file}
use Rattle.fib_capture.proofs.spans.Spans.read.Goals as goal

pub returns : goal.returns
returns c = spans_of_file _ _ _ _ (sym c.in_ok-order.ensures.value) c.in_ok-read_spans.ensures
