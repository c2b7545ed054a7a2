use Rattle.std.proofs.Common.{◌≡◌, ◌∙◌, ◌≤◌, List, take, refl, sym, subst, arith, rules}
use Rattle.std.specs.Prelude.{Ok}
use Rattle.std.specs.List.{AllByRecursion}
use Rattle.fib_base_list.proofs.Lists.{each-weaker}
use Rattle.fib_plane_view.specs.View.{View}
use Rattle.fib_stack_ledger.specs.declared.ledger.Use.{Use}
use Rattle.fib_stack_ledger.specs.Ledgers.{times}
use Rattle.fib_stack.specs.Records.{AreObjects, Freed, GaveAll, IsAlone, TookAll, TookFor, record_for, records_for}
use Rattle.fib_stack.specs.declared.records.Want.TheVariants as wants
use Rattle.fib_plane_view.proofs.Storing.{stores_none}
use Rattle.fib_stack.proofs.Exact.{objects_more, taken_next}
use Rattle.fib_stack.proofs.Calling.{takes_for, takes_none, takes_then}
use Rattle.fib_stack.proofs.Leaving.{quiet_none, quiet_then}
use Rattle.fib_stack.proofs.Listing.{took_none, times_length, enough_users, same_after}
use Rattle.fib_stack.proofs.Freeing.{alone_none, alone_step, given_back}
use Rattle.fib_stack.proofs.Newly.{lacks_next, new_all, new_next, new_none}
use Rattle.fib_stack.proofs.Taking.{failed_kept, failed_short, failed_took, took_quietly, took_serving, took_step, records_next, few_step}
use Rattle.fib_stack.proofs.records.take_all.Goals as goal

pub loop-mark-init : goal.loop-mark-init
loop-mark-init g c = record {
  took = subst (λ (us : List Use). TookAll (g.P.Objects.view c.args.on.now) (g.P.Objects.view c.args.on.now) us) (sym c.requires.none) (took_none (g.P.Objects.view c.args.on.now));
  taken = takes_none _ _ refl;
  stores = stores_none _ _ _ (λ y t. refl) refl;
  records = search rules;
  new = new_none (g.P.Objects.view c.args.on.now) (records_for (take 0 c.args.marks.now));
  alone = λ m none. alone_none (g.P.Objects.view c.args.on.now) m (g.met.P.Objects.sound c.args.on.now) none;
  few = search rules;
  capacity = refl;
  quiet = λ look. quiet_none look _;
  serves = λ n h. h;
  promise = refl;
}

pub take_for-requires-clause-few : goal.take_for-requires-clause-few
take_for-requires-clause-few g c = λ m.
    omega (arith, c.loop-mark.invariant.took.users m, times_length m c.loop-mark.uses.items, c.loop-mark.invariant.few, c.requires.few m, c.loop-mark-test.true)

pub give_all-requires-clause-users : goal.give_all-requires-clause-users
give_all-requires-clause-users g c = λ m. subst (λ (us : List Use). times m us ≤ (g.P.Objects.view c.take_for.new.on).users m) (sym c.as_slice.ensures.value) (enough_users _ _ c.take_for.new.uses.items (failed_took (g.P.Objects.view c.args.on.now) (g.P.Objects.view c.loop-mark.on) (g.P.Objects.view c.take_for.new.on) (record_for c.mark-item.result.aim) c.loop-mark.uses.items c.take_for.new.uses.items c.in-Err.want c.take_for.result c.in-Err.is c.loop-mark.invariant.took c.take_for.ensures.took) m)

pub give_all-requires-clause-objects : goal.give_all-requires-clause-objects
give_all-requires-clause-objects g c = subst (λ (us : List Use). AreObjects (g.P.Objects.view c.take_for.new.on) us) (sym c.as_slice.ensures.value) (failed_took (g.P.Objects.view c.args.on.now) (g.P.Objects.view c.loop-mark.on) (g.P.Objects.view c.take_for.new.on) (record_for c.mark-item.result.aim) c.loop-mark.uses.items c.take_for.new.uses.items c.in-Err.want c.take_for.result c.in-Err.is c.loop-mark.invariant.took c.take_for.ensures.took).objects

pub returns-in-Err-clause-err : goal.returns-in-Err-clause-err
returns-in-Err-clause-err g c =
    let i = c.loop-mark.invariant in
    let o = record_for c.mark-item.result.aim in
    let u0 = g.P.Objects.view c.args.on.now in
    let u = g.P.Objects.view c.loop-mark.on in
    let v = g.P.Objects.view c.take_for.new.on in
    let w = g.P.Objects.view c.give_all.new.on in
    let same = failed_kept u v o c.loop-mark.uses.items c.take_for.new.uses.items c.in-Err.want c.take_for.result c.in-Err.is c.take_for.ensures.took in
    let took = failed_took u0 u v o c.loop-mark.uses.items c.take_for.new.uses.items c.in-Err.want c.take_for.result c.in-Err.is i.took c.take_for.ensures.took in
    let ms = i.new.0 in
    same_after u0 v w c.take_for.new.uses.items (g.met.P.Objects.sound c.args.on.now) (g.met.P.Objects.sound c.give_all.new.on) took
    (subst (λ (us : List Use). GaveAll v w us) c.as_slice.ensures.value c.give_all.ensures.gave)
    (given_back u0 u w c.loop-mark.uses.items (records_for (take c.loop-mark.mark-index c.args.marks.now)) ms i.took i.records i.new.1 (let paid = i.new.2 in omega (arith, paid))
    (subst (λ (x : View). Freed x w c.loop-mark.uses.items ms) same.0
    (subst (λ (us : List Use). Freed v w us ms) (c.as_slice.ensures.value ∙ same.1)
    (c.give_all.ensures.freed ms (subst (λ (x : View). AllByRecursion (IsAlone x) ms) (sym same.0) (each-weaker _ (IsAlone u) (λ m q. i.alone m q.0) ms i.new.1.new))))))

pub returns-in-Err-clause-short : goal.returns-in-Err-clause-short
returns-in-Err-clause-short g c = λ is.
    let i = c.loop-mark.invariant in
    let e : c.in-Err.want ≡ wants.Object = cc in
    let none = failed_short (g.P.Objects.view c.loop-mark.on) (g.P.Objects.view c.take_for.new.on) (record_for c.mark-item.result.aim) c.loop-mark.uses.items c.take_for.new.uses.items c.in-Err.want c.take_for.result c.in-Err.is c.take_for.ensures.took e in
    omega (arith, none, i.took.free, i.few, c.loop-mark-test.true)

pub returns-in-Err-clause-quiet : goal.returns-in-Err-clause-quiet
returns-in-Err-clause-quiet g c = λ look.
    quiet_then look _ _ _ (quiet_then look _ _ _ (c.loop-mark.invariant.quiet look) (took_quietly _ _ (record_for c.mark-item.result.aim) c.loop-mark.uses.items c.take_for.new.uses.items c.take_for.result (g.met.P.Objects.sound c.loop-mark.on) (g.met.P.Objects.sound c.take_for.new.on) c.take_for.ensures.took look)) (c.give_all.ensures.quiet look)

pub loop-mark-preserved : goal.loop-mark-preserved
loop-mark-preserved g c =
    let i = c.loop-mark.invariant in
    let o = record_for c.mark-item.result.aim in
    let took : TookFor (g.P.Objects.view c.loop-mark.on) (g.P.Objects.view c.take_for.new.on) o c.loop-mark.uses.items c.take_for.new.uses.items (Ok c.in_default.field-0) =
    subst (λ r. TookFor (g.P.Objects.view c.loop-mark.on) (g.P.Objects.view c.take_for.new.on) o c.loop-mark.uses.items c.take_for.new.uses.items r) c.in_default.is c.take_for.ensures.took in
    record {
      took = took_step _ _ _ c.loop-mark.uses.items c.take_for.new.uses.items o c.in_default.field-0 i.took took;
      stores = taken_next _ _ _ c.loop-mark.uses.items c.take_for.new.uses.items i.took.objects (objects_more _ _ o c.loop-mark.uses.items c.take_for.new.uses.items c.in_default.field-0 took) i.stores c.take_for.ensures.stores;
      taken = takes_then _ _ _ i.taken (takes_for _ _ o c.loop-mark.uses.items c.take_for.new.uses.items c.in_default.field-0 took);
      records = records_next _ _ c.loop-mark.uses.items c.take_for.new.uses.items c.args.marks.now c.loop-mark.mark-index c.mark-item.result c.in_default.field-0 c.loop-mark-test.true (sym c.mark-item.is) i.records took;
      new = new_next _ _ _ c.loop-mark.uses.items c.take_for.new.uses.items c.args.marks.now c.loop-mark.mark-index c.mark-item.result c.in_default.field-0 c.loop-mark-test.true (sym c.mark-item.is) i.took i.records i.new took;
      alone = alone_step (g.P.Objects.view c.args.on.now) (g.P.Objects.view c.loop-mark.on) (g.P.Objects.view c.take_for.new.on) c.loop-mark.uses.items c.take_for.new.uses.items o c.in_default.field-0 (g.met.P.Objects.sound c.take_for.new.on) i.alone took;
      few = omega (arith, i.few, few_step _ _ c.loop-mark.uses.items c.take_for.new.uses.items o c.in_default.field-0 took);
      capacity = c.take_for.ensures.capacity ∙ i.capacity;
      quiet = λ look. quiet_then look _ _ _ (i.quiet look) (took_quietly _ _ o c.loop-mark.uses.items c.take_for.new.uses.items c.take_for.result (g.met.P.Objects.sound c.loop-mark.on) (g.met.P.Objects.sound c.take_for.new.on) c.take_for.ensures.took look);
      serves = λ n h. took_serving (g.P.Objects.promise c.args.on.now) n _ _ o c.loop-mark.uses.items c.take_for.new.uses.items c.take_for.result c.take_for.ensures.took (i.serves n h);
      promise = c.take_for.ensures.promise ∙ i.promise;
    }

pub returns-in-Err-clause-lacks : goal.returns-in-Err-clause-lacks
returns-in-Err-clause-lacks g c = λ is.
    let i = c.loop-mark.invariant in
    let e : c.in-Err.want ≡ wants.Object = cc in
    let none = failed_short (g.P.Objects.view c.loop-mark.on) (g.P.Objects.view c.take_for.new.on) (record_for c.mark-item.result.aim) c.loop-mark.uses.items c.take_for.new.uses.items c.in-Err.want c.take_for.result c.in-Err.is c.take_for.ensures.took e in
    lacks_next (g.P.Objects.view c.args.on.now) (g.P.Objects.view c.loop-mark.on) c.args.marks.now c.loop-mark.mark-index i.new none

pub returns-clause-new : goal.returns-clause-new
returns-clause-new g c = new_all (g.P.Objects.view c.args.on.now) (g.P.Objects.view c.loop-mark.on) c.args.marks.now c.loop-mark.mark-index 0 c.loop-mark.invariant.new
