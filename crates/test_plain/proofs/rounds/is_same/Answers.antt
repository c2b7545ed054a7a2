use Rattle.std.proofs.Common.{◌≡◌, ◌∙◌, Bool, true, false, ◌&&◌, List, [], ◌∷◌, refl, sym, ap}
use Rattle.std.specs.Bool.{OnTrue}
use Rattle.std.specs.Cmp.Lexicographic.{pointwise}
use Rattle.std.proofs.lemmas.Bool.{false≢true}
use mathlib.Core.Bool.{beq}
use Rattle.test_plain.proofs.rounds.is_same.Goals as goal

one_bit : (a b : Bool) (c : Bool) → (beq a b && c) ≡ true → (a ≡ b) × (c ≡ true)
one_bit true true c h = (refl, h)
one_bit true false c h = absurd (false≢true h)
one_bit false true c h = absurd (false≢true h)
one_bit false false c h = (refl, h)

same_bits : (xs ys : List Bool) → pointwise beq xs ys ≡ true → xs ≡ ys
same_bits [] [] h = refl
same_bits [] (y ∷ ys) h = absurd (false≢true h)
same_bits (x ∷ xs) [] h = absurd (false≢true h)
same_bits (x ∷ xs) (y ∷ ys) h =
    let r = one_bit x y (pointwise beq xs ys) h in
    ap (λ b. b ∷ xs) r.0 ∙ ap (λ bs. y ∷ bs) (same_bits xs ys r.1)

on_true : (b : Bool) (xs ys : List Bool) → (b ≡ true → xs ≡ ys) → OnTrue b (xs ≡ ys)
on_true true xs ys h = h refl
on_true false xs ys h = tt

pub returns : goal.returns
returns c = on_true c.eq.result c.args.xs.now c.args.ys.now (λ e. same_bits c.args.xs.now c.args.ys.now (sym c.eq.ensures ∙ e))
