use Rattle.std.proofs.Common.{◌≡◌, ap, arith, length, rules}
use Rattle.fib_core_board.specs.Boards.{Board}
use Rattle.fib_control.specs.Controls.{Control}
use Rattle.fib_rounds_homing.proofs.Boarding.{crew_longer, may_send, one_sent, others_home, with_step}
use Rattle.fib_rounds_homing.proofs.Mustering.{ready_all}
use Rattle.fib_rounds_homing.proofs.station.send_out.Goals as goal

pub mustered-station-requires : goal.mustered-station-requires
mustered-station-requires c =
    let i = c.loop-number.invariant in
    may_send c.args.control.now.plane.board c.loop-number.control.plane.board c.loop-number.number c.args.workers i.sent c.loop-number-test.true c.requires.some c.requires.few
    (i.home c.loop-number.number (omega arith))

pub loop-number-preserved : goal.loop-number-preserved
loop-number-preserved c =
    let i = c.loop-number.invariant in
    let a = c.args.control.now in
    let b = c.loop-number.control in
    let step = ap (λ (x : Control). x.plane.board) c.mustered-station.ensures.control in
    let n = c.loop-number.number in
    record {
      crew = crew_longer a.plane.board b.plane.board n c.loop-number.crew.items c.push_reserved.new.self.items c.mustered-station.result i.sent i.crew i.all c.mustered-station.ensures.station c.push_reserved.ensures.items;
      all = (let e = ap length c.push_reserved.ensures.items in let l = i.all in omega (arith, e, l));
      long = (let e = c.push_reserved.ensures in let l = i.long in omega (arith, e, l));
      same = with_step a b c.mustered-station.new.control _ i.same c.mustered-station.ensures.control;
      sent = one_sent a.plane.board b.plane.board c.mustered-station.new.control n i.sent step;
      home = others_home b.plane.board c.mustered-station.new.control.plane.board n i.home step;
      room = (let r = i.room in let e = c.push_reserved.ensures in omega (arith, r, e));
    }

pub returns-clause-ready : goal.returns-clause-ready
returns-clause-ready c = λ k count knows enough few.
    let all : length c.loop-number.crew.items ≡ c.args.workers = search rules in
    ready_all c.args.control.now.plane.board k 0 count c.loop-number.crew.items c.loop-number.invariant.crew knows (λ n lt. enough n (omega (arith, lt, all))) few
