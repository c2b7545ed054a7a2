use Rattle.std.proofs.Common.{arith, length, refl, sym, subst, take}
use Rattle.std.proofs.lemmas.Option.{slice_get_read}
use Rattle.fib_base_interned.proofs.Finding.{contains_at}
use Rattle.fib_cover.proofs.Sets.{take_whole}
use Rattle.fib_follow_looked.specs.inner.Finding.{AreAmong, AreFound}
use Rattle.fib_follow_looked.proofs.Finding.{among_none, among_step, found_none, found_step}
use Rattle.fib_follow_looked.proofs.other.others.Goals as goal

pub list-init : goal.list-init
list-init c = (
  subst (AreAmong (take 0 c.args.list.now)) (sym c.new-changed.ensures) (among_none c.args.list.now),
  λ S h are hops. subst (AreFound S c.args.after.now.tables (take 0 c.args.list.now)) (sym c.new-changed.ensures)
      (found_none S c.args.after.now.tables c.args.list.now),
)

pub list-preserved : goal.list-preserved
list-preserved c =
    let here = slice_get_read c.args.list.now (length c.args.list.now) c.list.place c.index-list-place.result refl c.list-test.true c.index-list-place.is in (
      among_step c.args.list.now c.list.place c.index-list-place.result c.list.changed c.look.new.changed c.requires here c.list.invariant.0
          c.in_ok-look.ensures.grown,
      λ S h are hops. found_step S c.args.after.now.tables c.args.list.now c.list.place c.index-list-place.result c.list.changed c.look.new.changed here
          (c.list.invariant.1 S h are hops)
          (c.in_ok-look.ensures.step S h are (hops c.index-list-place.result (contains_at c.args.list.now c.list.place c.index-list-place.result here))),
    )

pub returns-clause-ordered : goal.returns-clause-ordered
returns-clause-ordered c = c.list.invariant.0.0

pub returns-clause-found : goal.returns-clause-found
returns-clause-found c = λ S h are hops.
    let over = c.list-test.false in
    subst (λ l. AreFound S c.args.after.now.tables l c.list.changed) (take_whole c.args.list.now c.list.place (omega (arith, over)))
    (c.list.invariant.1 S h are hops)
