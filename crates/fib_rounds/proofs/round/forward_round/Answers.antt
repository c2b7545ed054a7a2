use Rattle.std.proofs.Common.{◌≡◌, arith, rules, ap, sym, subst, ◌∙◌, length, true}
use Rattle.std.specs.Prelude.{All}
use Rattle.fib_core_board.specs.Boards.{Board}
use Rattle.fib_worker_crew.specs.Packets.{span}
use Rattle.fib_rounds_homing.specs.Stations.{AreBack, IsReady}
use Rattle.fib_rounds.specs.inner.Forwarded.{HasForwardedRound}
use Rattle.fib_rounds.proofs.Forwarding.{board_setup, count_is, enough_left, forwarded, knows_opened, written_back}
use Rattle.fib_rounds.proofs.round.forward_round.Goals as goal

pub beside-stop-requires-clause-ready : goal.beside-stop-requires-clause-ready
beside-stop-requires-clause-ready g c κs within =
    let o = c.args.round in
    let ps = c.args.task.now.packets.now.packets in
    let k = c.version.result.applied in
    let is = ap (λ v. v.applied) c.version.ensures in
    let count = count_is ps o.first o.to c.requires.may.order c.requires.may.inside ∙ sym c.frames.ensures.value in
    let ready = c.send_out.ensures.ready k c.frames.result (knows_opened c.args.task.now.settings.workers o.place k c.args.control.now c.requires.rests is) (enough_left c.args.task.now.settings.workers o.place c.frames.result c.args.control.now c.requires.rests c.requires.short c.frames.ensures.few) (omega (arith, c.frames.ensures.few)) in
    subst (λ n. All (IsReady k n) c.send_out.new.crew.items) (sym count) ready

pub bring_home-done-requires-clause-back : goal.bring_home-done-requires-clause-back
bring_home-done-requires-clause-back g c =
    let o = c.args.round in
    let taken = span c.args.task.now.packets.now.packets o.first o.to in
    let k = c.version.result.applied in
    let A = c.args.control.now in
    let C = c.beside-stop.new.control in
    let id : C.plane.board.id ≡ A.plane.board.id = ap (λ (x : Board). x.id) c.beside-stop.ensures.keeps ∙ ap (λ (x : Board). x.id) c.send_out.ensures.sent in
    let left : C.plane.board.rests ≡ A.plane.board.rests = ap (λ (x : Board). x.rests) c.beside-stop.ensures.keeps ∙ ap (λ (x : Board). x.rests) c.send_out.ensures.sent in
    let back = c.beside-stop.ensures.back A.plane.board c.send_out.ensures.crew in
    subst (λ t. AreBack t C.plane.board.rests k o.first c.gathered.result 0 taken c.beside-stop.new.crew.items) (sym id)
    (subst (λ ls. AreBack A.plane.board.id ls k o.first c.gathered.result 0 taken c.beside-stop.new.crew.items) (sym left) back)

pub returns-clause-ran : goal.returns-clause-ran
returns-clause-ran g c =
    let o = c.args.round in
    let ps = c.args.task.now.packets.now.packets in
    let told = c.in_ok-stop.ensures in
    let brought = c.bring_home-done.ensures in
    let done : c.bring_home-done.result ≡ true = search rules in
    let count = count_is ps o.first o.to c.requires.may.order c.requires.may.inside ∙ sym c.frames.ensures.value in
    let all : length c.beside-stop.new.crew.items ≡ c.args.task.now.settings.workers = c.beside-stop.ensures.long ∙ c.send_out.ensures.all in
    let len : length c.bring_home-done.new.places ≡ c.in_ok-places.places.len = search rules in
    let whole = forwarded c.args.task.now.script.now ps o c.args.task.now.settings.workers c.args.control.now c.send_out.new.control c.beside-stop.new.control c.bring_home-done.new.control c.args.reading.now.progress c.beside-stop.new.reading.progress c.args.reading.now.text.items c.beside-stop.new.reading.text.items c.in_ok-stop.stop
    c.bring_home-done.new.places c.version.result.applied c.gathered.result (length c.beside-stop.new.crew.items) c.requires.rests (board_setup c.args.control.now c.send_out.new.control _ c.send_out.ensures.same) c.send_out.ensures.sent told.keeps
    (board_setup c.beside-stop.new.control c.bring_home-done.new.control _ brought.same) brought.keeps told.on told.stops told.later told.inside told.short told.few told.lines told.history
    (ap (λ v. v.applied) c.version.ensures) c.gathered.ensures all (brought.home done) brought.none (brought.passes done) (omega (arith, count, c.frames.ensures.few)) in
    subst (HasForwardedRound c.args.task.now.script.now ps o c.args.control.now c.args.reading.now.progress c.args.reading.now.text.items c.in_ok-stop.stop c.bring_home-done.new.control c.beside-stop.new.reading.progress c.beside-stop.new.reading.text.items) (sym (written_back c.in_ok-places.places.len c.bring_home-done.new.places _ len)) whole
