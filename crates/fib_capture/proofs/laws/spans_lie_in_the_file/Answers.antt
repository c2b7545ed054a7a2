use Rattle.fib_capture.proofs.Inside.{spans_lie}
use Rattle.fib_capture.proofs.laws.spans_lie_in_the_file.Goals as goal

pub returns : goal.returns
returns c = spans_lie
