use Rattle.std.proofs.Common.{arith, ◌≡◌, ◌+◌, ◌<◌, ◌↔◌, ◌∙◌, ℕ, sym, subst}
use Rattle.std.specs.Prelude.{Contains, slice_index}
use Rattle.fib_reach.specs.Walks.{AllDiffer}
use Rattle.fib_entries_rows.proofs.Ranking.{one_ranked, place_fits, ranks_fall}
use Rattle.fib_follow_part.proofs.Numbering.{numbers_below}
use Rattle.fib_follow_part.proofs.numbers.numbered.Goals as goal

none : (k : ℕ) → 0 + k ≡ k
none k = omega arith

pub loop-place-init : goal.loop-place-init
loop-place-init c = record {
  len = sym c.in_ok-out.out.ok.0 ∙ c.in_ok-out.ensures.len;
  once = subst AllDiffer (sym c.order-order.ensures) c.requires.once;
  all = λ x. subst (λ l. Contains l x ↔ x < c.args.nodes) (sym c.order-order.ensures) (c.requires.all x);
  ranked = λ k lt. absurd (omega (arith, lt));
}

pub index_mut-requires : goal.index_mut-requires
index_mut-requires c = let p =
    place_fits 0 c.order-order.result.now c.loop-place.out.items c.args.nodes c.loop-place.place c.loop-place.invariant c.loop-place-test.true
    in subst (λ n. slice_index c.order-order.result.now c.loop-place.place < n) (sym c.loop-place.out.ok.0) p

pub loop-place-preserved : goal.loop-place-preserved
loop-place-preserved c = one_ranked 0 c.order-order.result.now c.loop-place.out.items c.args.nodes c.loop-place.place c.in-Ok.number c.loop-place.invariant c.loop-place-test.true (c.in-Ok.ensures.1 ∙ sym (none c.loop-place.place))

pub returns-clause-len : goal.returns-clause-len
returns-clause-len c = c.loop-place.invariant.len

pub returns-clause-below : goal.returns-clause-below
returns-clause-below c = numbers_below c.order-order.result.now c.loop-place.out.items c.args.nodes c.loop-place.place c.loop-place.invariant c.loop-place-test.false

pub returns-clause-falls : goal.returns-clause-falls
returns-clause-falls c = λ edges is.
    ranks_fall 0 c.order-order.result.now c.loop-place.out.items c.args.nodes c.loop-place.place edges c.args.marks.now is
    (sym c.order-order.ensures) c.loop-place.invariant c.loop-place-test.false
