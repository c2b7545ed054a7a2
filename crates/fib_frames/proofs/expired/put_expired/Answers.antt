use Rattle.std.proofs.Common.{◌++◌, ◌∷◌, ◌∙◌, [], arith, ap}
use Rattle.std.specs.Prelude.{flat_map, cond}
use Rattle.fib_frames.specs.Frames.{expired_line, expires_by}
use Rattle.fib_frames.proofs.Sending.{one_more, none_left, expired_step, expired_end}
use Rattle.fib_frames.proofs.expired.put_expired.Goals as goal

pub results-preserved : goal.results-preserved
results-preserved c =
    let mine = c.in_ok-put_if_expired.ensures ∙ ap (λ p. c.results.out.items ++ flat_map expired_line (cond (expires_by p c.kept-item.result.1.end) (c.kept-item.result.0 ∷ []) [])) c.packet_in.ensures.value in
    one_more _ _ _ _ _ _ c.results.invariant mine (expired_step c.args.bytes.now c.args.spans.now c.args.results.now c.results.kept-index c.kept-item.result c.results-test.true c.kept-item.is)

pub returns : goal.returns
returns c = none_left _ _ _ c.results.invariant (expired_end c.args.bytes.now c.args.spans.now c.args.results.now c.results.kept-index (omega (arith, c.results-test.false)))
