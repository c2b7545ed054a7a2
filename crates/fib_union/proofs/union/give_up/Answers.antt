use Rattle.std.proofs.Common.{arith, get_or, ◌≡◌, ◌++◌, ◌∷◌, [], length, ℕ, List, ap, ◌∙◌, refl}
use Rattle.fib_union.proofs.Leaving.{some_in, ins_more, left_more}
use Rattle.fib_union.proofs.Chains.{no_copy}
use Rattle.std.proofs.lemmas.List.{length_push}
use Rattle.fib_union.proofs.union.give_up.Goals as goal

pub take_in-requires-clause-some : goal.take_in-requires-clause-some
take_in-requires-clause-some c =
    some_in c.args.gone.now c.loop-old.old-index c.loop-old-test.true _ _ (c.loop-old.invariant.ins _) (c.requires.counted _)

pub loop-old-preserved : goal.loop-old-preserved
loop-old-preserved c =
    let pushed : c.push.new.self.items ≡ c.loop-old.left.items ++ (get_or c.args.gone.now c.loop-old.old-index no_copy).to ∷ [] = rw (c.push.ensures.items, c.if-is_err.ensures.negation) refl in
    let long = ap (λ (l : List ℕ). length l) pushed ∙ length_push c.loop-old.left.items _ in
    record {
      ins = λ o. ins_more c.args.gone.now c.loop-old.old-index c.loop-old-test.true o _ _ _ (c.take_in.ensures.ins o) (c.loop-old.invariant.ins o);
      left = left_more c.args.gone.now c.loop-old.old-index c.loop-old-test.true _ _ _ c.loop-old.invariant.left pushed;
      room = omega (arith, c.loop-old.invariant.room, c.push.ensures.capacity);
      long = omega (arith, long, c.loop-old.invariant.long);
    }
