use Rattle.std.proofs.Common.{arith, ◌≡◌, ◌∙◌, Some, length, refl, slice_get, subst, sym}
use Rattle.std.proofs.lemmas.Option.{slice_get_read}
use Rattle.fib_entries_rows.specs.inner.Looping.{AddsEdges, AreEdgesAmong}
use Rattle.fib_entries_rows.proofs.Loopings.{among_more, among_none}
use Rattle.fib_follow_view.specs.inner.Told.{next_in}
use Rattle.fib_follow_part.specs.inner.Searched.{AddsOuts, AreLeaving}
use Rattle.fib_follow_part.proofs.Leaving.{leaving_more, leaving_none}
use Rattle.fib_follow_part.proofs.edges.edges_of.Goals as goal

pub order-init : goal.order-init
order-init c =
    let next = next_in c.args.view.now in
    let order = c.as_slice-order.result.now in (
      subst (AreEdgesAmong next order 0) (sym c.new-edges.ensures.items) (among_none next order),
      subst (AreLeaving next order 0) (sym c.requires.none) (leaving_none next order),
    )

pub order-preserved : goal.order-preserved
order-preserved c =
    let next = next_in c.args.view.now in
    let order = c.as_slice-order.result.now in
    let e = c.index-order-from.result in
    let targets = c.as_slice.result.now in
    let here : slice_get order c.order.from ≡ Some e = slice_get_read order (length order) c.order.from e refl c.order-test.true c.index-order-from.is in
    let are = c.as_slice.ensures.value ∙ c.in_ok-targets.ensures in (
      among_more next order c.order.from e targets c.order.edges.items c.add_edges.new.edges.items c.order.invariant.0 here are
          (subst (λ o. AddsEdges o c.order.from targets c.order.edges.items c.add_edges.new.edges.items)
          (sym c.as_slice-order.ensures) c.in_ok-add_edges.ensures.edges),
      leaving_more next order c.order.from e targets c.order.out.items c.add_edges.new.out.items c.order.invariant.1 here are
          (subst (λ o. AddsOuts o c.order.from targets c.order.out.items c.add_edges.new.out.items)
          (sym c.as_slice-order.ensures) c.in_ok-add_edges.ensures.out),
    )

pub returns-clause-edges : goal.returns-clause-edges
returns-clause-edges c =
    let next = next_in c.args.view.now in
    let order = c.as_slice-order.result.now in
    let done : c.order.from ≡ length order = (let a = c.order-test.false in let b = c.order.auto.from-end in omega (arith, a, b)) in
    subst (λ o. AreEdgesAmong next o (length o) c.order.edges.items) c.as_slice-order.ensures
    (subst (λ n. AreEdgesAmong next order n c.order.edges.items) done c.order.invariant.0)

pub returns-clause-out : goal.returns-clause-out
returns-clause-out c =
    let next = next_in c.args.view.now in
    let order = c.as_slice-order.result.now in
    let done : c.order.from ≡ length order = (let a = c.order-test.false in let b = c.order.auto.from-end in omega (arith, a, b)) in
    subst (λ o. AreLeaving next o (length o) c.order.out.items) c.as_slice-order.ensures
    (subst (λ n. AreLeaving next order n c.order.out.items) done c.order.invariant.1)
