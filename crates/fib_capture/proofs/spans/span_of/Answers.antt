use Rattle.std.proofs.Common.{arith}
use Rattle.fib_capture.proofs.Spanning.{flow_long}
use Rattle.fib_capture.proofs.spans.span_of.Goals as goal

pub overflow_sub-result : goal.overflow_sub-result
overflow_sub-result c = omega (arith, c.link_length-before.ensures, flow_long _ _ _ _ _ c.packet_of.ensures c.in-Flow.is)
