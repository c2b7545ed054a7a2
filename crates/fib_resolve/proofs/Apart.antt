-- Lists without two elements that a test takes for one.
use Rattle.std.proofs.Common.{arith, ◌≡◌, ℕ, Bool, true, false, cond, List, [], ◌∷◌, ◌++◌, map, Option, Some, None, inl, inr, refl, sym, ◌∙◌}
use Rattle.std.specs.Prelude.{filter, position, is_none, length, ◌≤◌}
use Rattle.std.specs.List.{AllByRecursion, IsDistinct, list_any, position_or_len}
use Rattle.std.specs.Cmp.{IsEquivalence}
use Rattle.std.proofs.lemmas.Bool.{false≢true, ltb-false}
use Rattle.fib_base_list.proofs.Lists.{either, each-weaker, each-filter, each-append}

-- no element passes
pub each-fails : {X : Type 0} (test : X → Bool) (xs : List X) → list_any test xs ≡ false → AllByRecursion (λ x. test x ≡ false) xs
each-fails test [] h = tt
each-fails test (x ∷ xs) h =
    elim (either (test x)) [
      | inl is ↦ absurd (false≢true (sym h ∙ rw is refl))
      | inr isnt ↦ (isnt, each-fails test xs (rw isnt at h))
    ]

pub apart-push : {X : Type 0} (eq : X → X → Bool) (xs : List X) (y : X) → IsDistinct eq xs → AllByRecursion (λ x. eq x y ≡ false) xs → IsDistinct eq (xs ++ y ∷ [])
unfolding IsDistinct
apart-push eq [] y h k = (tt, tt)
apart-push eq (x ∷ xs) y h k = (each-append (λ z. eq x z ≡ false) xs (y ∷ []) h.0 (k.0, tt), apart-push eq xs y h.1 k.1)

pub apart-filter : {X : Type 0} (eq : X → X → Bool) (test : X → Bool) (xs : List X) → IsDistinct eq xs → IsDistinct eq (filter test xs)
unfolding IsDistinct
apart-filter eq test [] h = tt
apart-filter eq test (x ∷ xs) h =
    elim (either (test x)) [
      | inl passes ↦ rw passes (each-weaker (λ y. (eq x y ≡ false) × (test y ≡ true)) (λ y. eq x y ≡ false) (λ y k. k.0) (filter test xs) (each-filter (λ y. eq x y ≡ false) test xs h.0), apart-filter eq test xs h.1)
      | inr fails ↦ rw fails (apart-filter eq test xs h.1)
    ]

apart-mapped : {X : Type 0} (eq : X → X → Bool) (f : X → X) → ((x y : X) → eq (f x) (f y) ≡ eq x y) → (x : X) (ys : List X) → AllByRecursion (λ y. eq x y ≡ false) ys → AllByRecursion (λ y. eq (f x) y ≡ false) (map f ys)
apart-mapped eq f same x [] h = tt
apart-mapped eq f same x (y ∷ ys) h = (same x y ∙ h.0, apart-mapped eq f same x ys h.1)

pub apart-map : {X : Type 0} (eq : X → X → Bool) (f : X → X) → ((x y : X) → eq (f x) (f y) ≡ eq x y) → (xs : List X) → IsDistinct eq xs → IsDistinct eq (map f xs)
unfolding IsDistinct
apart-map eq f same [] h = tt
apart-map eq f same (x ∷ xs) h = (apart-mapped eq f same x xs h.0, apart-map eq f same xs h.1)

-- in place of the first that passes, or at the end
abbrev pub put : {X : Type 0} → (X → Bool) → X → List X → List X
put test y [] = y ∷ []
put test y (x ∷ xs) = cond (test x) (y ∷ xs) (x ∷ put test y xs)

pub each-put : {X : Type 0} (P : X → Type 0) (test : X → Bool) (y : X) (xs : List X) → P y → AllByRecursion P xs → AllByRecursion P (put test y xs)
each-put P test y [] h k = (h, tt)
each-put P test y (x ∷ xs) h k =
    elim (either (test x)) [
      | inl is ↦ rw is (h, k.1)
      | inr isnt ↦ rw isnt (k.0, each-put P test y xs h k.1)
    ]

pub apart-put : {X : Type 0} (eq : X → X → Bool) → IsEquivalence eq → (test : X → Bool) (y : X) → ((x : X) → test x ≡ eq x y) → (xs : List X) → IsDistinct eq xs → IsDistinct eq (put test y xs)
unfolding IsDistinct
apart-put eq laws test y is_test [] h = (tt, tt)
apart-put eq laws test y is_test (x ∷ xs) h =
    elim (either (test x)) [
      | inl is ↦ rw is (each-weaker (λ z. eq x z ≡ false) (λ z. eq y z ≡ false) (λ z k. sym (laws.congr x y z (sym (is_test x) ∙ is)) ∙ k) xs h.0, h.1)
      | inr isnt ↦ rw isnt (each-put (λ z. eq x z ≡ false) test y xs (sym (is_test x) ∙ isnt) h.0, apart-put eq laws test y is_test xs h.1)
    ]

none_found : {X : Type 0} (test : X → Bool) (xs : List X) → length xs ≤ position_or_len test xs → AllByRecursion (λ x. test x ≡ false) xs
none_found test [] h = tt
none_found test (x ∷ xs) h =
    elim (either (test x)) [
      | inl is ↦ absurd (omega (arith, (rw is at h)))
      | inr isnt ↦ (isnt, none_found test xs (omega (arith, (rw isnt at h))))
    ]

is_placed : (b : Bool) (n : ℕ) → is_none (cond b (Some n) None) ≡ true → b ≡ false
is_placed true n h = absurd (false≢true h)
is_placed false n h = refl

-- no place, no element that passes
pub each-without_place : {X : Type 0} (test : X → Bool) (xs : List X) → is_none (position test xs) ≡ true → AllByRecursion (λ x. test x ≡ false) xs
each-without_place test xs h = none_found test xs (ltb-false (position_or_len test xs) (length xs) (is_placed _ (position_or_len test xs) h))

pub some_place : {X : Type 0} (o : Option X) → is_none o ≡ false → (x : X) × (o ≡ Some x)
some_place None h = absurd (false≢true (sym h))
some_place (Some x) h = (x, refl)
