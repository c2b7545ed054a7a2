-- What is found in lists by a test, and by a place.
use Rattle.std.proofs.Common.{arith, ◌≡◌, ◌≢◌, ℕ, zero, suc, ◌-◌, ◌<◌, ◌≤◌, Bool, true, List, [], ◌∷◌, ◌++◌, length, take, Some, None, ◌⊎◌, inl, inr, refl, sym, ◌∙◌, ap, subst, is_some, slice_get, slice_index_or, slice_set}
use Rattle.std.specs.Prelude.{find, Contains}
use Rattle.std.specs.List.{swap_remove, AllByRecursion}
use Rattle.std.specs.Map.{lookup, lookup_key}
use Rattle.std.proofs.lemmas.Bool.{false≢true, cases_eq}
use Rattle.std.proofs.lemmas.Option.{slice_get_within, slice_get-get_or, get_or_from_slice_get}
use Rattle.fib_base_list.proofs.Lists.{either}

module _ {X : Type 0} where
  pub some_is : (x y : X) → Some x ≡ Some y → x ≡ y
  some_is x y e = (cc)

  pub none_some : (x : X) → None ≡ Some x → ⊥
  none_some x e = false≢true (ap is_some e)

  pub each_at : (P : X → Type 0) (xs : List X) → AllByRecursion P xs → (i : ℕ) (x : X) → slice_get xs i ≡ Some x → P x
  each_at P [] all i x at = absurd (none_some x at)
  each_at P (y ∷ ys) all zero x at = subst P (some_is y x at) all.0
  each_at P (y ∷ ys) all (suc i) x at = each_at P ys all.1 i x at

  pub get_or_at : (xs : List X) (i : ℕ) (x : X) → i < length xs → slice_index_or xs i x ≡ x → slice_get xs i ≡ Some x
  get_or_at [] i x lt is = absurd (omega (arith, lt))
  get_or_at (y ∷ ys) zero x lt is = ap Some is
  get_or_at (y ∷ ys) (suc i) x lt is = get_or_at ys i x (omega (arith, lt)) is

  pub contains_at : (xs : List X) (i : ℕ) (x : X) → slice_get xs i ≡ Some x → Contains xs x
  contains_at [] i x at = absurd (none_some x at)
  contains_at (y ∷ ys) zero x at = (0, omega arith, some_is y x at)
  contains_at (y ∷ ys) (suc i) x at = let r = contains_at ys i x at in (suc r.0, omega (arith, r.1), r.2)

  -- the first that passes stands at some place, and it passes
  pub find_place : (test : X → Bool) (xs : List X) (x : X) → find test xs ≡ Some x → (i : ℕ) × (slice_get xs i ≡ Some x) × (test x ≡ true)
  find_place test [] x h = absurd (none_some x h)
  find_place test (y ∷ ys) x h =
      elim (either (test y)) [
        | inl is ↦ (zero, rw is at h, subst (λ z. test z ≡ true) (some_is y x (rw is at h)) is)
        | inr isnt ↦ (let r = find_place test ys x (rw isnt at h) in (suc r.0, r.1, r.2))
      ]

  -- where only one place passes, that is found
  pub find_only : (test : X → Bool) (xs : List X) (i : ℕ) (x : X) → slice_get xs i ≡ Some x → test x ≡ true
      → ((j : ℕ) (y : X) → slice_get xs j ≡ Some y → test y ≡ true → j ≡ i) → find test xs ≡ Some x
  find_only test [] i x at passes only = absurd (none_some x at)
  find_only test (y ∷ ys) zero x at passes only = rw (some_is y x at) (rw passes refl)
  find_only test (y ∷ ys) (suc i) x at passes only =
      elim (either (test y)) [
        | inl is ↦ (let e = only 0 y refl is in absurd (omega (arith, e)))
        | inr isnt ↦ rw isnt (find_only test ys i x at passes (λ j z a p. let e = only (suc j) z a p in omega (arith, e)))
      ]

  -- where no place passes, nothing is found
  pub find_none : (test : X → Bool) (xs : List X) → ((j : ℕ) (y : X) → slice_get xs j ≡ Some y → test y ≡ true → ⊥) → find test xs ≡ None
  find_none test [] none = refl
  find_none test (y ∷ ys) none =
      elim (either (test y)) [
        | inl is ↦ absurd (none 0 y refl is)
        | inr isnt ↦ rw isnt (find_none test ys (λ j z a p. none (suc j) z a p))
      ]

  -- what stands at a place of a list with one more at its end
  pub get_push : (xs : List X) (x : X) (i : ℕ) (y : X) → slice_get (xs ++ x ∷ []) i ≡ Some y → (slice_get xs i ≡ Some y) ⊎ ((i ≡ length xs) × (x ≡ y))
  get_push [] x zero y at = inr (refl, some_is x y at)
  get_push [] x (suc i) y at = absurd (none_some y at)
  get_push (z ∷ zs) x zero y at = inl at
  get_push (z ∷ zs) x (suc i) y at = elim (get_push zs x i y at) [ inl old ↦ inl old | inr new ↦ (let e = new.0 in inr (omega (arith, e), new.1)) ]

  pub get_push_old : (xs : List X) (x : X) (i : ℕ) (y : X) → slice_get xs i ≡ Some y → slice_get (xs ++ x ∷ []) i ≡ Some y
  get_push_old [] x i y at = absurd (none_some y at)
  get_push_old (z ∷ zs) x zero y at = at
  get_push_old (z ∷ zs) x (suc i) y at = get_push_old zs x i y at

  pub get_push_new : (xs : List X) (x : X) → slice_get (xs ++ x ∷ []) (length xs) ≡ Some x
  get_push_new [] x = refl
  get_push_new (z ∷ zs) x = get_push_new zs x

  -- what stands at a place of a list with another at one place
  pub get_set_there : (xs : List X) (i : ℕ) (w x : X) → slice_get xs i ≡ Some x → slice_get (slice_set xs i w) i ≡ Some w
  get_set_there [] i w x at = absurd (none_some x at)
  get_set_there (z ∷ zs) zero w x at = refl
  get_set_there (z ∷ zs) (suc i) w x at = get_set_there zs i w x at

  pub get_set_other : (xs : List X) (i j : ℕ) (w : X) → j ≢ i → slice_get (slice_set xs i w) j ≡ slice_get xs j
  get_set_other [] i j w n = refl
  get_set_other (z ∷ zs) zero zero w n = absurd (n refl)
  get_set_other (z ∷ zs) zero (suc j) w n = refl
  get_set_other (z ∷ zs) (suc i) zero w n = refl
  get_set_other (z ∷ zs) (suc i) (suc j) w n = get_set_other zs i j w (λ e. n (omega (arith, e)))

  pub length_take_low : (xs : List X) (n : ℕ) → length (take n xs) ≤ n
  length_take_low [] zero = omega arith
  length_take_low [] (suc n) = omega arith
  length_take_low (z ∷ zs) zero = omega arith
  length_take_low (z ∷ zs) (suc n) = let r = length_take_low zs n in omega (arith, r)

  pub get_take : (xs : List X) (n i : ℕ) → i < n → slice_get (take n xs) i ≡ slice_get xs i
  get_take [] zero i lt = refl
  get_take [] (suc n) i lt = refl
  get_take (z ∷ zs) zero i lt = absurd (omega (arith, lt))
  get_take (z ∷ zs) (suc n) zero lt = refl
  get_take (z ∷ zs) (suc n) (suc i) lt = get_take zs n i (omega (arith, lt))

-- the key that is found passes
pub key_passes : {K V : Type 0} (test : K → Bool) (es : List (K × V)) (k : K) → lookup_key test es ≡ Some k → test k ≡ true
key_passes test [] k h = absurd (none_some k h)
key_passes test (e ∷ es) k h =
    elim (either (test e.0)) [
      | inl is ↦ subst (λ z. test z ≡ true) (some_is e.0 k (rw is at h)) is
      | inr isnt ↦ key_passes test es k (rw isnt at h)
    ]

pub lookup_none : {K V : Type 0} (test : K → Bool) (es : List (K × V)) → lookup_key test es ≡ None → lookup test es ≡ None
lookup_none test [] h = refl
lookup_none test (e ∷ es) h =
    elim (either (test e.0)) [
      | inl is ↦ absurd (none_some e.0 (sym (rw is at h)))
      | inr isnt ↦ rw isnt (lookup_none test es (rw isnt at h))
    ]

-- a list whose item at a place is gone, with the last in its place
module _ {X : Type 0} (xs : List X) (place : ℕ) (x : X) (at : slice_get xs place ≡ Some x) where
  abbrev pub swapped : List X
  swapped = swap_remove xs place x

  pub swapped_old : (j : ℕ) → j < length xs - 1 → j ≢ place → slice_get swapped j ≡ slice_get xs j
  swapped_old j low apart = get_take (slice_set xs place (slice_index_or xs (length xs - 1) x)) (length xs - 1) j low ∙ get_set_other xs place j (slice_index_or xs (length xs - 1) x) apart

  pub swapped_place : (y : X) → place < length xs - 1 → slice_get xs (length xs - 1) ≡ Some y → slice_get swapped place ≡ Some y
  swapped_place y low last =
      get_take (slice_set xs place (slice_index_or xs (length xs - 1) x)) (length xs - 1) place low
      ∙ get_set_there xs place (slice_index_or xs (length xs - 1) x) x at ∙ ap Some (get_or_from_slice_get xs (length xs - 1) y x last)

  swapped_low : (j : ℕ) (y : X) → slice_get swapped j ≡ Some y → j < length xs - 1
  swapped_low j y is =
      let low = slice_get_within (take (length xs - 1) (slice_set xs place (slice_index_or xs (length xs - 1) x))) j y is in
      let most = length_take_low (slice_set xs place (slice_index_or xs (length xs - 1) x)) (length xs - 1) in omega (arith, low, most)

  pub swapped_at : (j : ℕ) (y : X) → slice_get swapped j ≡ Some y → ((j ≢ place) × (j < length xs - 1) × (slice_get xs j ≡ Some y)) ⊎ ((j ≡ place) × (place < length xs - 1) × (slice_get xs (length xs - 1) ≡ Some y))
  swapped_at j y is =
      let low = swapped_low j y is in
      elim (cases_eq j place) [
        | inl same ↦ (let here : place < length xs - 1 = omega (arith, low, same) in
            let last = slice_get-get_or xs (length xs - 1) x (let some = slice_get_within xs place x at in omega (arith, some)) in
            inr (same, here, last ∙ (sym (swapped_place _ here last) ∙ (ap (slice_get swapped) (sym same) ∙ is))))
        | inr other ↦ inl (other, low, sym (swapped_old j low other) ∙ is)
      ]
