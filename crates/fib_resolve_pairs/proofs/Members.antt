-- Members of lists made from lists.
use Rattle.std.proofs.Common.{arith, ◌≡◌, zero, suc, List, [], ◌∷◌, Option, Some, None, ◌⊎◌, inl, inr, refl, ◌∙◌, ap}
use Rattle.std.specs.Prelude.{Contains, filter_map, flat_map, option_to_list}
use Rattle.std.proofs.lemmas.List.Elements.{Contains-append_cases}
use Rattle.fib_base_list.proofs.Lists.{Contains-nil}

pub first_in : {X : Type 0} (x : X) (xs : List X) → Contains (x ∷ xs) x
first_in x xs = (0, omega arith, refl)

pub later_in : {X : Type 0} (x y : X) (xs : List X) → Contains xs y → Contains (x ∷ xs) y
later_in x y xs h = (suc h.0, omega (arith, h.1), h.2)

pub in_cases : {X : Type 0} (x y : X) (xs : List X) → Contains (x ∷ xs) y → (x ≡ y) ⊎ Contains xs y
in_cases x y xs (zero, lt, is) = inl is
in_cases x y xs (suc k, lt, is) = inr (k, omega (arith, lt), is)

pub some_or_none : {X : Type 0} (o : Option X) → (o ≡ None) ⊎ ((x : X) × (o ≡ Some x))
some_or_none None = inl refl
some_or_none (Some x) = inr (x, refl)

some_injective : {X : Type 0} (x y : X) → Some x ≡ Some y → x ≡ y
some_injective x y h = cc

pub filter_map_in : {X Y : Type 0} (h : X → Option Y) (xs : List X) (x : X) (y : Y) → Contains xs x → h x ≡ Some y → Contains (filter_map h xs) y
filter_map_in h [] x y c is = absurd (Contains-nil x c)
filter_map_in h (z ∷ zs) x y c is =
    elim (in_cases z x zs c) [
      | inl same ↦ rw (ap h same ∙ is) (first_in y (filter_map h zs))
      | inr later ↦ elim (some_or_none (h z)) [
        | inl none ↦ rw none (filter_map_in h zs x y later is)
        | inr some ↦ rw some.1 (later_in some.0 y (filter_map h zs) (filter_map_in h zs x y later is))
      ]
    ]

pub filter_map_from : {X Y : Type 0} (h : X → Option Y) (xs : List X) (y : Y) → Contains (filter_map h xs) y → (x : X) × Contains xs x × (h x ≡ Some y)
filter_map_from h [] y c = absurd (Contains-nil y c)
filter_map_from h (z ∷ zs) y c =
    elim (some_or_none (h z)) [
      | inl none ↦ (let r = filter_map_from h zs y (rw none at c) in (r.0, later_in z r.0 zs r.1, r.2))
      | inr some ↦ elim (in_cases some.0 y (filter_map h zs) (rw some.1 at c)) [
        | inl same ↦ (z, first_in z zs, some.1 ∙ ap (λ w. Some w) same)
        | inr later ↦ (let r = filter_map_from h zs y later in (r.0, later_in z r.0 zs r.1, r.2))
      ]
    ]

pub flat_map_from : {X Y : Type 0} (f : X → List Y) (xs : List X) (y : Y) → Contains (flat_map f xs) y → (x : X) × Contains xs x × Contains (f x) y
flat_map_from f [] y c = absurd (Contains-nil y c)
flat_map_from f (z ∷ zs) y c =
    elim (Contains-append_cases (f z) (flat_map f zs) y c) [
      | inl here ↦ (z, first_in z zs, here)
      | inr there ↦ (let r = flat_map_from f zs y there in (r.0, later_in z r.0 zs r.1, r.2))
    ]

pub option_in : {X : Type 0} (o : Option X) (x : X) → o ≡ Some x → Contains (option_to_list o) x
option_in o x h = rw h (first_in x [])

pub option_from : {X : Type 0} (o : Option X) (x : X) → Contains (option_to_list o) x → o ≡ Some x
option_from None x c = absurd (Contains-nil x c)
option_from (Some y) x c = elim (in_cases y x [] c) [ inl same ↦ ap (λ z. Some z) same | inr none ↦ absurd (Contains-nil x none) ]
