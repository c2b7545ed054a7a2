use Rattle.std.proofs.Common.{arith, ◌-◌, Some, sym, ◌∙◌, ap, subst, Option, ℕ, drop, length, get_or}
use Rattle.std.specs.Prelude.{IfSome, ◌<◌}
use Rattle.std.specs.HashMap.{get}
use Rattle.fib_addr.specs.Prefixes.{same_prefix}
use Rattle.fib_resolve.specs.Pairs.{better}
use Rattle.fib_resolve.specs.declared.pairs.Pair.{Pair}
use Rattle.fib_resolve_pairs.specs.inner.Places.{pair_at}
use Rattle.fib_resolve_pairs.proofs.Backward.{front}
use Rattle.fib_resolve_pairs.proofs.Best.{here}
use Rattle.fib_resolve_pairs.proofs.Placing.{inside_more, best_more, none_best}
use Rattle.fib_resolve_pairs.proofs.places.best_places.Goals as goal

pub better_place-requires-clause-other : goal.better_place-requires-clause-other
better_place-requires-clause-other c =
    subst (λ (o : Option ℕ). IfSome o (λ k. k < length c.args.pairs.now)) (sym (c.copied-found.ensures ∙ c.get.ensures.value)) (c.loop-i.invariant.inside (get_or c.args.pairs.now (c.loop-i.i - 1) c.index-pairs-i.result).prefix)

pub loop-i-preserved : goal.loop-i-preserved
loop-i-preserved c =
    let xs = c.args.pairs.now in
    let i = c.loop-i.i in
    let x = get_or xs (i - 1) c.index-pairs-i.result in
    let same = ap (λ (d : Pair). get_or xs (i - 1) d) c.index-pairs-i.is in
    let at = front xs i x (omega (arith, c.loop-i-test.true)) (omega (arith, c.loop-i.auto.i)) same in
    let found = c.copied-found.ensures ∙ c.get.ensures.value in
    let best = c.better_place.ensures.better x (here xs (i - 1) x (omega (arith, c.loop-i-test.true, c.loop-i.auto.i)) same) ∙ ap (λ (o : Option ℕ). Some (better x (pair_at xs o))) found in
    record {
      inside = inside_more _ (get same_prefix c.loop-i.places) xs (drop i xs) x (drop (i - 1) xs) c.better_place.result c.in_ok-insert.ensures.updates.0 c.loop-i.invariant.inside c.better_place.ensures.inside;
      best = best_more _ (get same_prefix c.loop-i.places) xs (drop i xs) x (drop (i - 1) xs) c.better_place.result c.in_ok-insert.ensures.updates.0 c.loop-i.invariant.best best at;
    }

pub loop-i-init : goal.loop-i-init
loop-i-init c =
    let empty = c.in_ok-places.ensures.empty in
    record {
      inside = λ p. rw empty tt;
      best = λ p. rw empty (none_best c.args.pairs.now p);
    }
