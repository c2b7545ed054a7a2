use Rattle.std.proofs.Common.{arith, ◌<◌, refl, subst, ◌∙◌}
use Rattle.std.proofs.lemmas.Option.{slice_get_read}
use Rattle.fib_cover.proofs.Sets.{take_whole}
use Rattle.fib_follow_plan.specs.inner.Telling.{AreAsked, IsAsked}
use Rattle.fib_follow_plan.proofs.Growing.{each_more, each_none, grows_more, grows_none, listed_stays}
use Rattle.fib_follow_plan.proofs.asked.add_all_asked.Goals as goal

pub changed-init : goal.changed-init
changed-init c = (
  grows_none c.args.view.now c.args.covers.now c.args.out.now.items,
  each_none (λ x l. IsAsked c.args.view.now c.args.features.now l x) c.changed-changed.result.now c.args.out.now.items,
)

pub changed-preserved : goal.changed-preserved
changed-preserved c =
    let v = c.args.view.now in
    let covers = c.args.covers.now in
    let xs = c.changed-changed.result.now in
    let x = c.index.result.now in
    let old = c.changed.out.items in
    let new = c.add_asked.new.out.items in
    let inside = subst (λ n. c.changed.place < n) c.len-place-end.ensures c.changed-test.true in
    let here = slice_get_read xs _ c.changed.place x refl inside c.index.ensures in
    let grows = c.in_ok-add_asked.ensures.grows in (
      grows_more v covers c.args.out.now.items old new c.changed.invariant.0 grows,
      each_more (λ z l. IsAsked v c.args.features.now l z) xs c.changed.place x old new here c.changed.invariant.1
          (λ z asked cover e under found inside r off at. listed_stays v covers old new e grows (asked cover e under found inside r off at))
          c.in_ok-add_asked.ensures.asked,
    )

pub returns-clause-grows : goal.returns-clause-grows
returns-clause-grows c = c.changed.invariant.0

pub returns-clause-asked : goal.returns-clause-asked
returns-clause-asked c =
    let over = c.changed-test.false in
    let n = c.len-place-end.ensures in
    subst (λ l. AreAsked c.args.view.now c.args.features.now l c.changed.out.items)
    (take_whole c.changed-changed.result.now c.changed.place (omega (arith, over, n)) ∙ c.changed-changed.ensures.changed) c.changed.invariant.1
