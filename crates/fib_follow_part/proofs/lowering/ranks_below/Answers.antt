use Rattle.std.proofs.Common.{arith, ◌<◌, ℕ, inl, inr, length, map, ap, ap₂, subst, sym, ◌∙◌}
use Rattle.std.specs.Prelude.{Contains, IfNone, IfSome}
use Rattle.std.specs.List.{list_all}
use Rattle.fib_resolve_changes.proofs.SamePairs.{map_from}
use Rattle.fib_follow_part.specs.Parts.{rank_before}
use Rattle.fib_follow_part.specs.inner.Ranked.{IsBlock, leaves_below}
use Rattle.fib_follow_part.proofs.Fallen.{block_ranks, some_fails}
use Rattle.fib_follow_part.proofs.Searching.{map_length}
use Rattle.fib_follow_part.proofs.lowering.ranks_below.Goals as goal

pub block-requires-clause-below : goal.block-requires-clause-below
block-requires-clause-below c = λ n k.
    let is = c.numbers.ensures.numbers in
    let lt = c.numbers.ensures.numbered.below n (subst (λ l. Contains l n) is k) in
    let len = ap length is in
    let each = c.numbers.ensures.numbered.each in
    omega (arith, lt, len, each)

pub returns-in_default-clause-none : goal.returns-in_default-clause-none
returns-in_default-clause-none c =
    let v = c.args.view.now in
    let p = c.args.part.now in
    let ranks = c.as_slice.result.now in
    let made = c.as_slice.ensures.value ∙ (c.in_ok-before.ensures ∙ ap (map (rank_before v)) c.members.ensures) in
    let low = subst (λ o. IfNone o ((n : ℕ) × Contains ranks n × (n < length ranks))) c.in_default.is c.in_ok-ranks.ensures.none in
    let r = map_from (rank_before v) p.members low.0 (subst (λ l. Contains l low.0) made low.1) in
    let len = ap length made ∙ map_length (rank_before v) p.members in
    let lt = low.2 in
    let same = r.2 in
    inl (r.0, r.1, omega (arith, lt, same, len))

pub returns-then-do_leave-clause-some : goal.returns-then-do_leave-clause-some
returns-then-do_leave-clause-some c = λ S T h is.
    let v = c.args.view.now in
    let p = c.args.part.now in
    let before = c.as_slice.result.now in
    let ranks = c.in-Some.ranks.items in
    let numbers = c.numbers.result.now in
    let made = subst (λ o. IfSome o (λ x. IsBlock before numbers x.items)) c.in-Some.is c.in_ok-ranks.ensures.some in
    block_ranks v S T p before ranks h is c.numbers.ensures.numbered.each
    (c.as_slice.ensures.value ∙ (c.in_ok-before.ensures ∙ ap (map (rank_before v)) c.members.ensures))
    (subst (λ ns. IsBlock before ns ranks) c.numbers.ensures.numbers made)
    (sym (c.do_leave.ensures ∙ ap₂ (λ rs es. list_all (leaves_below v rs) es) c.as_slice-2.ensures.value c.out.ensures) ∙ c.if-do_leave.true)

pub returns-clause-none : goal.returns-clause-none
returns-clause-none c =
    let v = c.args.view.now in
    let r = some_fails (leaves_below v c.as_slice-2.result.now) c.out.result.now (sym c.do_leave.ensures ∙ c.if-do_leave.false) in
    inr (r.0, subst (λ l. Contains l r.0) c.out.ensures r.1)
