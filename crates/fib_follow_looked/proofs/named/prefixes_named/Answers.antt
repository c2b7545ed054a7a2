use Rattle.std.proofs.Common.{arith, [], length, refl, sym, subst, take}
use Rattle.std.proofs.lemmas.Option.{slice_get_read}
use Rattle.fib_base_interned.proofs.Finding.{each_at}
use Rattle.fib_follow_looked.specs.Looks.{IsShortChange}
use Rattle.fib_follow_looked.specs.inner.Adding.{AddsEach}
use Rattle.fib_follow_looked.specs.inner.Naming.{names}
use Rattle.fib_follow_looked.proofs.Growth.{adds_none, adds_step, adds_whole}
use Rattle.fib_follow_looked.proofs.named.prefixes_named.Goals as goal

pub changes-init : goal.changes-init
changes-init c =
    subst (AddsEach (names c.args.before.now c.args.after.now.tables) (take 0 c.args.changes.now) []) (sym c.new-set.ensures)
    (adds_none (names c.args.before.now c.args.after.now.tables) c.args.changes.now [])

pub add_change-requires : goal.add_change-requires
add_change-requires c =
    each_at IsShortChange c.args.changes.now c.requires c.changes.place c.index-changes-place.result
    (slice_get_read c.args.changes.now
    (length c.args.changes.now) c.changes.place c.index-changes-place.result refl c.changes-test.true c.index-changes-place.is)

pub changes-preserved : goal.changes-preserved
changes-preserved c =
    adds_step (names c.args.before.now c.args.after.now.tables) c.args.changes.now c.changes.place c.index-changes-place.result [] c.changes.set
    c.add_change.new.set
    (slice_get_read c.args.changes.now
    (length c.args.changes.now) c.changes.place c.index-changes-place.result refl c.changes-test.true c.index-changes-place.is)
    c.changes.invariant c.in_ok-add_change.ensures

pub returns : goal.returns
returns c = let over = c.changes-test.false
    in adds_whole (names c.args.before.now c.args.after.now.tables) c.args.changes.now c.changes.place [] c.changes.set
    (omega (arith, over)) c.changes.invariant
