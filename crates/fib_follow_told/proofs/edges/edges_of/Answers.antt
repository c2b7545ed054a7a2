use Rattle.std.proofs.Common.{arith, length, map, refl, subst, sym, ap}
use Rattle.std.proofs.lemmas.Option.{slice_get_read}
use Rattle.fib_reach.specs.Walks.{AllDiffer}
use Rattle.fib_entries_rows.proofs.Touches.{ascending_differ}
use Rattle.fib_follow_view.specs.Views.{anew_prefix}
use Rattle.fib_follow_part.proofs.Searching.{get_map, map_length}
use Rattle.fib_follow_told.specs.inner.Gathered.{AreEdgesFrom}
use Rattle.fib_follow_told.specs.inner.Lacking.{Comes, Goes}
use Rattle.fib_follow_told.proofs.Leading.{edges_are, edges_none, edges_step}
use Rattle.fib_follow_told.proofs.edges.edges_of.Goals as goal

pub changed-init : goal.changed-init
changed-init c =
    let v = c.args.view.now in
    let from = map anew_prefix c.changed-changed.result.now in (
      subst (AreEdgesFrom (Comes v) from 0) (sym c.new-come.ensures) (edges_none (Comes v) from),
      subst (AreEdgesFrom (Goes v) from 0) (sym c.new-go.ensures) (edges_none (Goes v) from),
    )

pub changed-preserved : goal.changed-preserved
changed-preserved c =
    let v = c.args.view.now in
    let xs = c.changed-changed.result.now in
    let from = map anew_prefix xs in
    let x = c.index.result.now in
    let place = c.changed.place in
    let here = get_map anew_prefix xs place x (slice_get_read xs (length xs) place x refl
    (let lt = c.changed-test.true in let n = c.len-place-end.ensures in omega (arith, lt, n)) c.index.ensures) in
    let differ = subst (λ l. AllDiffer (map anew_prefix l)) (sym c.changed-changed.ensures.changed)
    (ascending_differ (map anew_prefix v.changed) c.changed-changed.ensures.ordered) in (
      edges_step (Comes v) from place x.prefix c.changed.come c.add_both.new.come here c.changed.invariant.0 c.in_ok-add_both.ensures.come differ,
      edges_step (Goes v) from place x.prefix c.changed.go c.add_both.new.go here c.changed.invariant.1 c.in_ok-add_both.ensures.go differ,
    )

pub returns-clause-edges : goal.returns-clause-edges
returns-clause-edges c = λ S T h.
    let v = c.args.view.now in
    let is = c.changed-changed.ensures.changed in
    let over = c.changed-test.false in
    let n = c.len-place-end.ensures in
    let m = map_length anew_prefix v.changed in
    let k = ap length is in
    edges_are v S T h c.changed.place (omega (arith, over, n, m, k)) (record { come = c.changed.come; go = c.changed.go })
    (subst (λ l. AreEdgesFrom (Comes v) (map anew_prefix l) c.changed.place c.changed.come) is c.changed.invariant.0)
    (subst (λ l. AreEdgesFrom (Goes v) (map anew_prefix l) c.changed.place c.changed.go) is c.changed.invariant.1)

pub returns-clause-once : goal.returns-clause-once
returns-clause-once c = c.changed.invariant.0.once
