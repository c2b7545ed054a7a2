use Rattle.std.proofs.Common.{◌∙◌, ap}
use Rattle.fib_resolve.specs.declared.types.End.TheVariants as ends
use Rattle.fib_frames.proofs.Sending.{sent_is}
use Rattle.fib_frames.proofs.frames.put_sent.Goals as goal

pub returns : goal.returns
returns c =
    sent_is c.args.out.now.items _ c.args.packet.now c.in-Hop.interface c.in-Hop.next_hop c.in-Some.mac _ c.args.end.now
    (c.in-Hop.is ∙ ap (ends.Hop c.in-Hop.interface c.in-Hop.next_hop) c.in-Some.is) c.in_ok-put_frame.ensures.live c.in_ok-put_frame.ensures.sent c.in_ok-put_frame.ensures.nothing
