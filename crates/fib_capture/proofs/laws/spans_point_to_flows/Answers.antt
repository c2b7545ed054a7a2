use Rattle.fib_capture.proofs.Pointing.{spans_point}
use Rattle.fib_capture.proofs.laws.spans_point_to_flows.Goals as goal

pub returns : goal.returns
returns c = spans_point
