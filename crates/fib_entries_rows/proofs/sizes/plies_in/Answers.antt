use Rattle.std.proofs.Common.{arith, ◌≡◌, ℕ, suc, ◌+◌, ◌/◌, ◌<◌, None, length, take, refl, ap, ◌∙◌}
use Rattle.std.proofs.lemmas.Option.{slice_get_read}
use Rattle.fib_entries_rows.specs.inner.Plies.{own_below}
use Rattle.fib_entries_rows.proofs.LeafSizes.{ply_count}
use Rattle.fib_entries_rows.proofs.Summing.{plies_next}
use Rattle.fib_entries_rows.proofs.sizes.plies_in.Goals as goal

sums : (plies own a b c : ℕ) → plies ≡ a → own ≡ b → c ≡ a + b → plies + own ≡ c
sums plies own a b c p o s = omega (arith, p, o, s)

pub loop-place-preserved : goal.loop-place-preserved
loop-place-preserved c =
    let order = c.args.order.now in
    let k = c.loop-place.place in
    let p = c.index-order-at.result in
    let inside : k < length order = (let lt = c.loop-place-test.true in let n = c.requires.count in omega (arith, lt, n)) in
    let at = slice_get_read order _ k p refl inside c.index-order-at.is in
    let next = ap (λ n. ply_count (take n order)) (let e : k + 1 ≡ suc k = omega arith in e) ∙ plies_next order c.requires.ascending c.requires.prefixes k p at in
    let own = c.own_plies.ensures.plies ∙ ap (λ b. own_below p b None ((p.len + 3) / 4)) c.before-in-loop-place.ensures in
    record {
      plies = sums c.loop-place.plies c.own_plies.result _ _ _ c.loop-place.invariant.plies own next;
      few = (let f = c.loop-place.invariant.few in let g = c.own_plies.ensures.few in omega (arith, f, g));
    }
