use Rattle.std.proofs.Common.{length, subst, sym}
use Rattle.fib_worker_crew.specs.Packets.{span}
use Rattle.fib_rounds_homing.specs.Homes.{IsHome}
use Rattle.fib_rounds_homing.specs.inner.Coming.{IsBrought}
use Rattle.fib_rounds_homing.proofs.Arriving.{coming_all}
use Rattle.fib_rounds_homing.proofs.Gathering.{home}
use Rattle.fib_rounds_homing.proofs.home.bring_home.Goals as goal

pub returns-clause-none : goal.returns-clause-none
returns-clause-none c =
    let t = c.args.taken in
    (coming_all t.opened t.first t.base (length c.args.crew.items) (span c.args.packets.now.packets t.first t.to) c.args.control.now.plane.board c.come_home-done.new.control.plane.board c.args.places.now
    c.come_home-done.new.places c.come_home-done.result c.come_home-done.ensures.come).0

pub returns-clause-drawn : goal.returns-clause-drawn
returns-clause-drawn c =
    let t = c.args.taken in
    c.tells_board.ensures.claims (coming_all t.opened t.first t.base (length c.args.crew.items) (span c.args.packets.now.packets t.first t.to) c.args.control.now.plane.board
    c.come_home-done.new.control.plane.board c.args.places.now c.come_home-done.new.places c.come_home-done.result c.come_home-done.ensures.come).0

pub returns-clause-home : goal.returns-clause-home
returns-clause-home c = λ yes.
    let t = c.args.taken in
    let taken = span c.args.packets.now.packets t.first t.to in
    let n = length c.args.crew.items in
    let a = c.args.control.now.plane.board in
    let b = c.come_home-done.new.control.plane.board in
    let all = coming_all t.opened t.first t.base n taken a b c.args.places.now c.come_home-done.new.places c.come_home-done.result c.come_home-done.ensures.come in
    let board = c.tells_board.ensures in
    subst (λ m. IsHome t.opened t.first m n taken a b c.come_home-done.new.places) (sym c.requires.base)
    (home t.opened t.first n taken a b c.args.places.now c.come_home-done.new.places
    (subst (λ m. IsBrought t.opened t.first m n taken a b c.args.places.now c.come_home-done.new.places) c.requires.base (all.1 yes))
    c.requires.places c.requires.any c.requires.some c.requires.drawn (board.claims all.0) board.lawful board.steady)
