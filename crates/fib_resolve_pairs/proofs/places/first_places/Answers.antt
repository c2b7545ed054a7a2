use Rattle.std.proofs.Common.{arith, ◌≡◌, ℕ, sym, ◌∙◌, ap, drop}
use Rattle.std.specs.List.{position_from}
use Rattle.std.proofs.lemmas.Iterator.Adapters.{position_from-zero}
use Rattle.fib_resolve_pairs.proofs.Backward.{front}
use Rattle.fib_resolve_pairs.proofs.Placing.{place_more}
use Rattle.fib_resolve_pairs.proofs.places.first_places.Goals as goal

pub loop-i-preserved : goal.loop-i-preserved
loop-i-preserved g c =
    let at = front c.args.items.now c.loop-i.i c.index-items-i.result (omega (arith, c.loop-i-test.true)) (omega (arith, c.loop-i.auto.i)) c.index-items-i.is in
    place_more g.T.PartialEq.eq g.met.T.Eq.laws _ _ c.index-items-i.result _ _ c.loop-i.i c.loop-i-test.true at c.in_ok-insert.ensures.updates.0 c.loop-i.invariant

pub returns : goal.returns
returns g c x =
    let zero : c.loop-i.i ≡ 0 = omega (arith, c.loop-i-test.false) in
    c.loop-i.invariant x ∙ (ap (λ (n : ℕ). position_from (g.T.PartialEq.eq x) n (drop n c.args.items.now)) zero ∙ sym (position_from-zero (g.T.PartialEq.eq x) c.args.items.now))
