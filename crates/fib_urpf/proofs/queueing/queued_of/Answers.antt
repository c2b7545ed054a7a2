use Rattle.std.proofs.Common.{◌∙◌, ◌++◌, ◌∷◌, ◌≤◌, [], ap, arith, length, sym}
use Rattle.fib_urpf.proofs.Requeued.{one_more, take_all}
use Rattle.fib_urpf.proofs.queueing.queued_of.Goals as goal

pub loop-place-preserved : goal.loop-place-preserved
loop-place-preserved c =
    c.in_ok-push.ensures.items ∙ ap (λ l. l ++ c.at.result ∷ []) c.loop-place.invariant ∙ sym (one_more c.args.queue.now.members c.loop-place.place c.at.result c.at.ensures)

pub returns : goal.returns
returns c =
    let over : length c.args.queue.now.members ≤ c.loop-place.place = grind (arith) in
    c.loop-place.invariant ∙ take_all c.args.queue.now.members c.loop-place.place over
