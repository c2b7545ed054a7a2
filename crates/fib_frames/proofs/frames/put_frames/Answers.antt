use Rattle.std.proofs.Common.{◌++◌, ◌∙◌, arith, ap}
use Rattle.std.specs.Prelude.{flat_map}
use Rattle.fib_capture.specs.Written.{record_bytes}
use Rattle.fib_capture.specs.declared.packet.Order.TheVariants.{Little}
use Rattle.fib_frames.specs.Frames.{sent_by}
use Rattle.fib_frames.proofs.Sending.{one_more, none_left, records_step, records_end}
use Rattle.fib_frames.proofs.frames.put_frames.Goals as goal

pub results-preserved : goal.results-preserved
results-preserved c =
    let mine = c.in_ok-put_sent.ensures ∙ ap (λ p. c.results.out.items ++ flat_map (record_bytes Little) (sent_by p c.kept-item.result.1.end)) c.packet_in.ensures.value in
    one_more _ _ _ _ _ _ c.results.invariant mine (records_step c.args.bytes.now c.args.spans.now c.args.results.now c.results.kept-index c.kept-item.result c.results-test.true c.kept-item.is)

pub returns : goal.returns
returns c = none_left _ _ _ c.results.invariant (records_end c.args.bytes.now c.args.spans.now c.args.results.now c.results.kept-index (omega (arith, c.results-test.false)))
