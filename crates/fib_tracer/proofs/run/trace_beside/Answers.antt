use Rattle.std.proofs.Common.{◌≡◌, [], ap, refl, sym, subst, ◌∙◌, Some}
use Rattle.fib_core_board.specs.Boards.{Board}
use Rattle.fib_core_board.specs.Crews.{Seated}
use Rattle.fib_control.specs.Controls.{Control}
use Rattle.fib_worker_crew.specs.Packets.{Matched}
use Rattle.fib_rounds_turns.specs.Routers.{applied_in, history_in}
use Rattle.fib_tracer.specs.Passes.{AreTraced}
use Rattle.fib_tracer.specs.inner.Printing.{IsShort}
use Rattle.fib_tracer.proofs.Standing.{done_by, home_short, home_traced, none_home, settled_known}
use Rattle.fib_tracer.proofs.run.trace_beside.Goals as goal

pub returns-in-Some-clause-traced : goal.returns-in-Some-clause-traced
returns-in-Some-clause-traced g c =
    let ps = c.args.task.now.packets.now.packets in
    let A = c.args.control.now in
    let C = c.beside-ran.new.control in
    let D = c.come_home-kept.new.control in
    let t = c.beside-ran.new.tracer in
    let v = c.worker.result in
    let back = done_by ps t v (Some v) t.seat refl c.beside-ran.ensures.done in
    let home = c.come_home-kept.ensures.home back.0 back.1 in
    let kept = c.in-Some.ensures.kept in
    let fresh : C.plane.board.trails ≡ [] =
    ap (λ (b : Board). b.trails) c.beside-ran.ensures.keeps ∙ (ap (λ (x : Control). x.plane.board.trails) c.worker.ensures.board ∙ c.requires.idle.trails) in
    let past : v.worker.past ≡ [] = ap (λ (s : Seated). s.worker.past) c.worker.ensures.seat in
    let from = settled_known A v c.requires.idle.settled c.worker.ensures.seat in
    subst (AreTraced (applied_in A) (history_in D) ps D.plane.board.trails) (sym kept.1)
    (home_traced (applied_in A) C D ps v back.0 t.log.passes.items c.tells_board.ensures home fresh past from (back.2.made kept.0))

pub returns-in-Some-clause-short : goal.returns-in-Some-clause-short
returns-in-Some-clause-short g c =
    let ps = c.args.task.now.packets.now.packets in
    let A = c.args.control.now in
    let C = c.beside-ran.new.control in
    let D = c.come_home-kept.new.control in
    let t = c.beside-ran.new.tracer in
    let v = c.worker.result in
    let back = done_by ps t v (Some v) t.seat refl c.beside-ran.ensures.done in
    let home = c.come_home-kept.ensures.home back.0 back.1 in
    let kept = c.in-Some.ensures.kept in
    let fresh : C.plane.board.trails ≡ [] =
    ap (λ (b : Board). b.trails) c.beside-ran.ensures.keeps ∙ (ap (λ (x : Control). x.plane.board.trails) c.worker.ensures.board ∙ c.requires.idle.trails) in
    let past : v.worker.past ≡ [] = ap (λ (s : Seated). s.worker.past) c.worker.ensures.seat in
    let from = settled_known A v c.requires.idle.settled c.worker.ensures.seat in
    subst (Matched IsShort ps) (sym kept.1)
    (home_short (applied_in A) C D ps v back.0 t.log.passes.items c.tells_board.ensures home fresh past from (back.2.made kept.0))

pub returns-in-Some-clause-none : goal.returns-in-Some-clause-none
returns-in-Some-clause-none g c =
    let ps = c.args.task.now.packets.now.packets in
    let t = c.beside-ran.new.tracer in
    let v = c.worker.result in
    let back = done_by ps t v (Some v) t.seat refl c.beside-ran.ensures.done in
    let home = c.come_home-kept.ensures.home back.0 back.1 in
    none_home c.args.control.now.plane.board c.worker.new.self.plane.board c.beside-ran.new.control.plane.board c.come_home-kept.new.control.plane.board back.0.worker c.requires.idle.none
    (ap (λ (x : Control). x.plane.board) c.worker.ensures.board) c.beside-ran.ensures.keeps (ap (λ (x : Control). x.plane.board) home)
    (back.2.same.number ∙ ap (λ (s : Seated). s.worker.number) c.worker.ensures.seat)

pub returns-in-None-clause-none : goal.returns-in-None-clause-none
returns-in-None-clause-none g c =
    let ps = c.args.task.now.packets.now.packets in
    let t = c.beside-ran.new.tracer in
    let v = c.worker.result in
    let back = done_by ps t v (Some v) t.seat refl c.beside-ran.ensures.done in
    let home = c.come_home-kept.ensures.home back.0 back.1 in
    none_home c.args.control.now.plane.board c.worker.new.self.plane.board c.beside-ran.new.control.plane.board c.come_home-kept.new.control.plane.board back.0.worker c.requires.idle.none
    (ap (λ (x : Control). x.plane.board) c.worker.ensures.board) c.beside-ran.ensures.keeps (ap (λ (x : Control). x.plane.board) home)
    (back.2.same.number ∙ ap (λ (s : Seated). s.worker.number) c.worker.ensures.seat)
