use Rattle.std.proofs.Common.{arith, ◌≡◌, ◌<◌, ◌+◌, ◌-◌, ◌^◌, ℕ, suc, zero, List, [], ◌∷◌, ◌++◌, length, take, get_or, sym, ap, ◌∙◌, subst}
use Rattle.fib_base_interned.proofs.Finding.{length_take_low}
use Rattle.fib_entries_rows.specs.inner.Building.{AreTaken}
use Rattle.fib_entries_rows.proofs.Taking.{taken_more, few_users}
use Rattle.fib_entries_rows.proofs.build.take_all.Goals as goal

take_next : {X : Type 0} (xs : List X) (i : ℕ) (x : X) → i < length xs → x ≡ get_or xs i x → take (suc i) xs ≡ take i xs ++ x ∷ []
take_next [] i x lt is = absurd (omega (arith, lt))
take_next (y ∷ ys) zero x lt is = ap (λ z. z ∷ []) (sym is)
take_next (y ∷ ys) (suc i) x lt is = ap (λ l. y ∷ l) (take_next ys i x (omega (arith, lt)) is)

take_more : {X : Type 0} (xs : List X) (i : ℕ) (x : X) → i < length xs → x ≡ get_or xs i x → take (i + 1) xs ≡ take i xs ++ x ∷ []
take_more xs i x lt is = let e : i + 1 ≡ suc i = omega arith in ap (λ n. take n xs) e ∙ take_next xs i x lt is

pub take-requires : goal.take-requires
take-requires c =
    let few = c.if-pairs.false in
    let in_list = c.loop-x-test.true in
    let low = length_take_low c.args.pairs.now c.loop-x.x-index in
    few_users c.loop-x.lists (take c.loop-x.x-index c.args.pairs.now) c.loop-x.out.items c.as_slice.result.now (2 ^ 32 - 1) c.loop-x.invariant (omega (arith, few, in_list, low))

pub loop-x-preserved : goal.loop-x-preserved
loop-x-preserved c =
    let more = taken_more c.loop-x.lists c.take.new.self c.as_slice.result.now c.in_ok-id.id c.in_ok-id.ensures.taken c.count-count.ensures.interned
    (take c.loop-x.x-index c.args.pairs.now) c.loop-x.out.items c.x-item.result (sym c.as_slice.ensures) c.loop-x.invariant in
    subst (λ l. AreTaken c.take.new.self l c.push.new.self.items) (sym (take_more c.args.pairs.now c.loop-x.x-index c.x-item.result c.loop-x-test.true c.x-item.is))
    (subst (AreTaken c.take.new.self (take c.loop-x.x-index c.args.pairs.now ++ c.x-item.result ∷ [])) (sym c.in_ok-push.ensures.items) more)
