use Rattle.std.proofs.Common.{arith, ◌++◌, length, refl, subst, sym, ap, ap₂, ◌∙◌}
use Rattle.std.proofs.lemmas.Option.{slice_get_read}
use Rattle.fib_follow_told.specs.inner.Moves.{AreFirstMoves, left_in, moved_with}
use Rattle.fib_follow_told.proofs.Moving.{moves_are, moves_none, moves_step}
use Rattle.fib_follow_told.proofs.telling.moved.Goals as goal

pub members-init : goal.members-init
members-init c = subst (AreFirstMoves c.args.view.now c.members-members.result.now c.args.ranks.now 0) (sym c.new-out.ensures)
    (moves_none c.args.view.now c.members-members.result.now c.args.ranks.now)

pub members-preserved : goal.members-preserved
members-preserved c =
    let v = c.args.view.now in
    let members = c.members-members.result.now in
    let ranks = c.args.ranks.now in
    let place = c.members.place in
    let e = c.index-members-place.result in
    moves_step v members ranks place e c.members.out
    (slice_get_read members (length members) place e refl c.members-test.true c.index-members-place.is) c.members.invariant c.push_moved.new.out
    (c.in_ok-push_moved.ensures ∙ ap₂ (λ a b. c.members.out ++ moved_with e a b) c.rank_before.ensures
    (c.rank_left-has.ensures ∙ ap (left_in v e) c.rank_at.ensures))

pub returns : goal.returns
returns c = λ S T h is.
    let over = c.members-test.false in
    let same = c.members-members.ensures in
    let n = ap length same in
    moves_are c.args.view.now S T h c.args.part.now is c.args.ranks.now c.members.place c.members.out (omega (arith, over, n))
    (subst (λ l. AreFirstMoves c.args.view.now l c.args.ranks.now c.members.place c.members.out) same c.members.invariant)
