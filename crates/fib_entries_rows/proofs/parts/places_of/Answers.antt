use Rattle.std.proofs.Common.{rules, arith, ◌≡◌, ◌*◌, ◌-◌, ◌<◌, ◌∙◌, ℕ, List, Option, None, ap, sym, subst, length, replicate, drop, slice_index_or, ◌+◌}
use Rattle.std.specs.Prelude.{IfSome}
use Rattle.fib_resolve_pairs.proofs.Backward.{front}
use Rattle.fib_resolve.specs.Keys.{source_rank}
use Rattle.fib_resolve.specs.Pairs.{pairs}
use Rattle.fib_entries_rows.specs.inner.Building.{kept_in}
use Rattle.fib_entries_rows.proofs.Keying.{slot_more, slots_whole, slots_empty, length_kept}
use Rattle.fib_entries_rows.proofs.parts.places_of.Goals as goal

pub loop-i-init : goal.loop-i-init
loop-i-init c =
    let is : c.in_ok-places.places.items ≡ replicate c.in-Some.slots None = c.in_ok-places.ensures.items_if_clones_equal (search rules) in
    record {
      many = omega (arith, c.in_ok-places.ensures.len, c.in-Some.ensures, ap length c.entries.ensures);
      are = slots_empty c.args.meaning.now c.pairs-pairs.result.now c.in-Some.slots c.in_ok-places.places.items is;
    }

pub keep-requires : goal.keep-requires
keep-requires c = subst (λ (n : ℕ). IfSome c.slot_of-slot.result (λ k. k < n)) (sym c.loop-i.invariant.many) c.slot_of-slot.ensures.below

pub loop-i-preserved : goal.loop-i-preserved
loop-i-preserved c =
    let S = c.args.meaning.now in
    let xs = c.pairs-pairs.result.now in
    let i = c.loop-i.i in
    let x = c.index-pairs-i.result in
    let at = front xs i x (omega (arith, c.loop-i-test.true)) (omega (arith, c.loop-i.auto.i)) c.index-pairs-i.is in
    let low = subst (λ (o : Option ℕ). IfSome o (λ k. k < length c.loop-i.places.items)) c.slot_of-slot.ensures.slot (subst (λ (n : ℕ). IfSome c.slot_of-slot.result (λ k. k < n)) (sym c.loop-i.invariant.many) c.slot_of-slot.ensures.below) in
    let put = c.keep.ensures ∙ ap (λ (o : Option ℕ). kept_in o (i - 1) c.loop-i.places.items) c.slot_of-slot.ensures.slot in
    record {
      many = ap length c.keep.ensures ∙ (length_kept c.slot_of-slot.result (i - 1) c.loop-i.places.items ∙ c.loop-i.invariant.many);
      are = λ p s k n. ap (λ (l : List (Option ℕ)). slice_index_or l (7 * k + source_rank s) None) put
          ∙ slot_more S (drop (i - 1) xs) (drop i xs) x i c.loop-i.places.items c.loop-i-test.true at p s k n low (c.loop-i.invariant.are p s k n);
    }

pub returns : goal.returns
returns c =
    let none : c.loop-i.i ≡ 0 = omega (arith, c.loop-i-test.false) in
    slots_whole c.args.meaning.now c.loop-i.i c.pairs-pairs.result.now (pairs c.args.meaning.now) c.loop-i.places.items none c.pairs-pairs.ensures c.loop-i.invariant.are
