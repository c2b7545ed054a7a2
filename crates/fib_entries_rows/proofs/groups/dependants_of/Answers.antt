use Rattle.std.proofs.Common.{ℕ, List, take, get_or, [], ◌∷◌, ◌++◌, sym, ◌∙◌, subst, refl}
use Rattle.std.specs.Prelude.{Contains}
use Rattle.std.proofs.lemmas.List.{take_more, take_all}
use Rattle.std.proofs.lemmas.Option.{slice_get_read}
use Rattle.fib_entries_rows.proofs.Grouping.{AreAt, at_push, sources_listed, source_inside, at_place_in}
use Rattle.fib_entries_rows.proofs.groups.dependants_of.Goals as goal

pub bounds-order-from : goal.bounds-order-from
bounds-order-from c =
    source_inside c.args.order.now c.args.edges.now c.args.back.now c.args.place _ c.requires.place c.requires.places c.requires.back
    (subst (λ (row : List ℕ). Contains row (get_or c.targets-from-items.result.now c.loop-from.from-index 0)) c.targets-from-items.ensures (at_place_in c.targets-from-items.result.now c.loop-from.from-index c.loop-from-test.true))

pub loop-from-preserved : goal.loop-from-preserved
loop-from-preserved c =
    let froms = c.targets-from-items.result.now in
    let order = c.args.order.now in
    let i = c.loop-from.from-index in
    let from = get_or froms i 0 in
    let inside = source_inside order c.args.edges.now c.args.back.now c.args.place from c.requires.place c.requires.places c.requires.back
    (subst (λ (row : List ℕ). Contains row from) c.targets-from-items.ensures (at_place_in froms i c.loop-from-test.true)) in
    let p = c.index-order-from.result in
    let at = slice_get_read order _ from p refl inside c.index-order-from.is in
    rw c.in_ok-push.ensures.ok (subst (λ (row : List ℕ). AreAt order row (c.loop-from.out ++ p ∷ [])) (sym (take_more froms i 0 c.loop-from-test.true)) (at_push order (take i froms) c.loop-from.out from p c.loop-from.invariant at))

pub returns : goal.returns
returns c = λ e at.
    sources_listed c.args.order.now c.args.edges.now c.args.back.now c.args.place e c.loop-from.out c.requires.ascending c.requires.place c.requires.places c.requires.back at
    (subst (λ (row : List ℕ). AreAt c.args.order.now row c.loop-from.out) (take_all c.loop-from.from-index c.targets-from-items.result.now c.loop-from-test.false ∙ c.targets-from-items.ensures) c.loop-from.invariant)
