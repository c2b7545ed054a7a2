use Rattle.std.proofs.Common.{◌≡◌, refl, subst, arith}
use Rattle.std.proofs.lemmas.Bool.Decides.{nat_tests}
use Rattle.trial_filling.specs.inner.Filling.{IsFilling}
use Rattle.trial_filling.proofs.Fills.{at_home, fresh_filling, ready}
use Rattle.trial_filling.proofs.filling.fill.Goals as goal

pub loop-store-init : goal.loop-store-init
loop-store-init g c = (fresh_filling (g.B.Board.view c.args.board.now) c.requires.fresh c.requires.objects c.requires.workers, omega arith, refl)

pub returns-clause-ready : goal.returns-clause-ready
returns-clause-ready g c =
    let most = c.loop-store.invariant.1 in
    let test = c.loop-store-test.false in
    let all : c.loop-store.store ≡ 254 = grind (arith, nat_tests) in
    let b = g.B.Board.view c.loop-store.board in
    let filled : IsFilling 254 b = subst (λ n. IsFilling n b) all c.loop-store.invariant.0 in
    ready b (g.B.Board.view c.scan.new.self) c.scan.result filled (c.scan.ensures.rests (at_home b filled.first)) c.scan.ensures.board
