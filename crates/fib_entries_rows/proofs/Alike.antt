-- Lists that pass a test of equality place by place are equal.
use Rattle.std.proofs.Common.{rules, arith, ◌≡◌, ◌<◌, ℕ, zero, suc, Bool, true, false, ◌&&◌, List, [], ◌∷◌, length, refl, sym, ◌∙◌, ap, subst, ◌↔◌}
use Rattle.std.specs.Prelude.{IsTrue, slice_index_or}
use Rattle.std.specs.List.{list_all}
use Rattle.std.specs.Cmp.Lexicographic.{pointwise}
use Rattle.std.proofs.lemmas.Bool.{false≢true}
use mathlib.Core.Bool.{beq}
use Rattle.fib_base_list.proofs.Booleans.{and_both}
use Rattle.fib_resolve.specs.declared.aims.Marked.{Marked}
use Rattle.fib_resolve.specs.contracts.aims.MarkedPartialEq.TheImpl.{eq-value}
use Rattle.fib_resolve.specs.contracts.aims.MarkedEq.TheImpl.Laws as laws

module _ {X : Type 0} (eq : X → X → Bool) (exact : (x y : X) → eq x y ≡ true → x ≡ y) (self : (x : X) → eq x x ≡ true) where
  pub lists_equal : (xs ys : List X) → pointwise eq xs ys ≡ true → xs ≡ ys
  lists_equal [] [] h = refl
  lists_equal [] (y ∷ ys) h = absurd (false≢true h)
  lists_equal (x ∷ xs) [] h = absurd (false≢true h)
  lists_equal (x ∷ xs) (y ∷ ys) h =
      let a = and_both (eq x y) (pointwise eq xs ys) h in
      ap (λ z. z ∷ xs) (exact x y a.0) ∙ ap (λ zs. y ∷ zs) (lists_equal xs ys a.1)

  all_self : (xs : List X) → pointwise eq xs xs ≡ true
  all_self [] = refl
  all_self (x ∷ xs) = rw (self x) (all_self xs)

  pub equal_lists : (xs ys : List X) → xs ≡ ys → pointwise eq xs ys ≡ true
  equal_lists xs ys e = subst (λ zs. pointwise eq xs zs ≡ true) e (all_self xs)

  pub pass_equal : (b : Bool) (xs ys : List X) → b ≡ pointwise eq xs ys → IsTrue b ↔ (xs ≡ ys)
  pass_equal b xs ys is = (λ t. lists_equal xs ys (sym is ∙ t), λ e. is ∙ equal_lists xs ys e)

bit_exact : (x y : Bool) → beq x y ≡ true → x ≡ y
bit_exact true true h = refl
bit_exact true false h = absurd (false≢true h)
bit_exact false true h = absurd (false≢true h)
bit_exact false false h = refl

bit_self : (x : Bool) → beq x x ≡ true
bit_self true = refl
bit_self false = refl

pub bits_pass : (b : Bool) (xs ys : List Bool) → b ≡ pointwise beq xs ys → IsTrue b ↔ (xs ≡ ys)
bits_pass b xs ys is = pass_equal beq bit_exact bit_self b xs ys is

mark_exact : (x y : Marked) → eq-value.it x y ≡ true → x ≡ y
mark_exact x y h = search rules

mark_self : (x : Marked) → eq-value.it x x ≡ true
mark_self x = laws.laws-law.refl x

pub marks_pass : (b : Bool) (xs ys : List Marked) → b ≡ pointwise eq-value.it xs ys → IsTrue b ↔ (xs ≡ ys)
marks_pass b xs ys is = pass_equal eq-value.it mark_exact mark_self b xs ys is

-- one that fails fails all
pub one_fails : {X : Type 0} (test : X → Bool) (xs : List X) (k : ℕ) (x : X) → k < length xs → x ≡ slice_index_or xs k x → test x ≡ false → list_all test xs ≡ false
one_fails test [] k x lt is f = absurd (omega (arith, lt))
one_fails test (y ∷ ys) zero x lt is f = rw (ap test (sym is) ∙ f) refl
one_fails test (y ∷ ys) (suc k) x lt is f = all_fails (test y) (list_all test ys) (one_fails test ys k x (omega (arith, lt)) is f)
  where
    all_fails : (b c : Bool) → c ≡ false → (b && c) ≡ false
    all_fails true c e = e
    all_fails false c e = refl
