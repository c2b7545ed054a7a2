use Rattle.std.proofs.Common.{arith, sym, ◌∙◌}
use Rattle.fib_worker_crew.specs.Frames.{frames}
use Rattle.fib_worker_crew.specs.Packets.{span}
use Rattle.test_live.proofs.Starting.{rested_left, three_frames}
use Rattle.test_live.proofs.homing.round.Goals as goal

pub forward_all-requires-clause-ready : goal.forward_all-requires-clause-ready
forward_all-requires-clause-ready g c κs within =
    let ps = c.args.packets.now.packets in
    let three = three_frames ps c.requires.all in
    c.send_out.ensures.ready 0 (frames (span ps 0 600)) (record { settled = omega arith; applied = omega arith })
    (λ n lt. rested_left c.args.control.now.plane.board (frames (span ps 0 600)) n c.requires.board three) (omega (arith, three))

pub bring_home-requires-clause-places : goal.bring_home-requires-clause-places
bring_home-requires-clause-places g c = c.requires.places ∙ sym (three_frames c.args.packets.now.packets c.requires.all)
