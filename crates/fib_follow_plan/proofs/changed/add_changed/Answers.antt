use Rattle.std.proofs.Common.{arith, ◌<◌, inl, refl, sym, ap, map, subst, ◌∙◌}
use Rattle.std.specs.Prelude.{Contains}
use Rattle.std.proofs.lemmas.Option.{slice_get_read}
use Rattle.fib_base_interned.proofs.Finding.{contains_at}
use Rattle.fib_cover.proofs.Sets.{take_whole}
use Rattle.fib_entries_rows.specs.Known.{prefix_of, row_of}
use Rattle.fib_follow_plan.specs.Noted.{IsListed, features_before}
use Rattle.fib_follow_plan.specs.inner.Telling.{AreAnew}
use Rattle.fib_follow_plan.proofs.Growing.{each_more, each_none, grows_more, grows_none, grows_one, listed_one, listed_stays}
use Rattle.fib_follow_plan.proofs.changed.add_changed.Goals as goal

pub changed-init : goal.changed-init
changed-init c = (
  grows_none c.args.view.now c.args.covers.now c.args.out.now.items,
  each_none (λ x l. IsListed l x.prefix) c.changed-changed.result.now c.args.out.now.items,
)

pub changed-preserved : goal.changed-preserved
changed-preserved c =
    let v = c.args.view.now in
    let covers = c.args.covers.now in
    let xs = c.changed-changed.result.now in
    let x = c.index.result.now in
    let old = c.changed.out.items in
    let new = c.push_changed.new.out.items in
    let inside = subst (λ n. c.changed.place < n) c.len-place-end.ensures c.changed-test.true in
    let here = slice_get_read xs _ c.changed.place x refl inside c.index.ensures in
    let y = c.in_ok-push_changed.ensures in
    let there = subst (λ l. Contains l x) c.changed-changed.ensures.changed (contains_at xs c.changed.place x here) in
    let grows = grows_one v covers old new y.0 y.1 (λ after h. inl (x, there, sym y.2, y.4 after h))
    (y.3 ∙ ap (λ e. features_before v.before.lists (map prefix_of v.before.rows) (row_of v.before.rows e)) (sym y.2)) in (
      grows_more v covers c.args.out.now.items old new c.changed.invariant.0 grows,
      each_more (λ z l. IsListed l z.prefix) xs c.changed.place x old new here c.changed.invariant.1
          (λ z l. listed_stays v covers old new z.prefix grows l) (listed_one old new y.0 x.prefix y.1 y.2),
    )

pub returns-clause-grows : goal.returns-clause-grows
returns-clause-grows c = c.changed.invariant.0

pub returns-clause-all : goal.returns-clause-all
returns-clause-all c =
    let over = c.changed-test.false in
    let n = c.len-place-end.ensures in
    subst (λ l. AreAnew l c.changed.out.items) (take_whole c.changed-changed.result.now c.changed.place (omega (arith, over, n)) ∙ c.changed-changed.ensures.changed)
    c.changed.invariant.1
