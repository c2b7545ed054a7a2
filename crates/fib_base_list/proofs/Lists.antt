-- Facts on std's words for lists that std has no lemma for.
use Rattle.std.proofs.Common.{arith, ◌≡◌, ℕ, zero, suc, ◌<◌, get_or, Bool, true, false, ◌||◌, List, [], ◌∷◌, ◌++◌, map, length, ◌⊎◌, inl, inr, refl, sym, ◌∙◌, ap, subst}
use Rattle.std.specs.Prelude.{Contains, filter, flat_map, slice_get, IfSome}
use Rattle.std.specs.List.{AllByRecursion, list_any}
use Rattle.std.specs.Set.{is_member, unique_keys}
use Rattle.std.specs.Cmp.{IsEquivalence}
use Rattle.std.proofs.lemmas.List.Elements.{Contains-append_left, Contains-append_right}
use Rattle.std.proofs.lemmas.Map.Steps.{list_any_congr}

-- a boolean, with an equation for each case
pub either : (b : Bool) → (b ≡ true) ⊎ (b ≡ false)
either true = inl refl
either false = inr refl

-- every element of what passes a test has the fact and passes
pub each-filter : {X : Type 0} (P : X → Type 0) (test : X → Bool) (xs : List X) → AllByRecursion P xs → AllByRecursion (λ x. P x × (test x ≡ true)) (filter test xs)
each-filter P test [] h = tt
each-filter P test (x ∷ xs) h =
    elim (either (test x)) [
      | inl passes ↦ rw passes ((h.0, passes), each-filter P test xs h.1)
      | inr fails ↦ rw fails (each-filter P test xs h.1)
    ]

pub each-weaker : {X : Type 0} (P Q : X → Type 0) → ((x : X) → P x → Q x) → (xs : List X) → AllByRecursion P xs → AllByRecursion Q xs
each-weaker P Q f [] h = tt
each-weaker P Q f (x ∷ xs) h = (f x h.0, each-weaker P Q f xs h.1)

pub each-append : {X : Type 0} (P : X → Type 0) (xs ys : List X) → AllByRecursion P xs → AllByRecursion P ys → AllByRecursion P (xs ++ ys)
each-append P [] ys h k = k
each-append P (x ∷ xs) ys h k = (h.0, each-append P xs ys h.1 k)

pub each-map : {X Y : Type 0} (P : Y → Type 0) (f : X → Y) (xs : List X) → AllByRecursion (λ x. P (f x)) xs → AllByRecursion P (map f xs)
each-map P f [] h = tt
each-map P f (x ∷ xs) h = (h.0, each-map P f xs h.1)

pub each-flat_map : {X Y : Type 0} (P : Y → Type 0) (f : X → List Y) (xs : List X) → AllByRecursion (λ x. AllByRecursion P (f x)) xs → AllByRecursion P (flat_map f xs)
each-flat_map P f [] h = tt
each-flat_map P f (x ∷ xs) h = each-append P (f x) (flat_map f xs) h.0 (each-flat_map P f xs h.1)

pub each-at : {X : Type 0} (P : X → Type 0) (xs : List X) (i : ℕ) → AllByRecursion P xs → IfSome (slice_get xs i) P
each-at P [] i h = tt
each-at P (x ∷ xs) zero h = h.0
each-at P (x ∷ xs) (suc i) h = each-at P xs i h.1

or_absorb : (x y : Bool) → (x ≡ true → y ≡ true) → y ≡ (x || y)
or_absorb true y h = h refl
or_absorb false y h = refl

-- leaving out repeats leaves the same members
pub is_member-unique_keys : {K : Type 0} {eq : K → K → Bool} → IsEquivalence eq → (q : K) (xs : List K) → is_member eq (unique_keys eq xs) q ≡ is_member eq xs q
is_member-unique_keys laws q [] = refl
is_member-unique_keys {K} {eq} laws q (x ∷ xs) =
    elim (either (is_member eq xs x)) [
      | inl yes_in ↦ rw yes_in (is_member-unique_keys laws q xs ∙ or_absorb (eq q x) (is_member eq xs q) (λ e. list_any_congr laws q x xs e ∙ yes_in))
      | inr not_in ↦ rw not_in (ap (λ b. eq q x || b) (is_member-unique_keys laws q xs))
    ]

pub list_any-map : {X Y : Type 0} (f : X → Y) (test : Y → Bool) (xs : List X) → list_any test (map f xs) ≡ list_any (λ x. test (f x)) xs
list_any-map f test [] = refl
list_any-map f test (x ∷ xs) = ap (λ b. test (f x) || b) (list_any-map f test xs)

at_place : {X Y : Type 0} (f : X → List Y) (xs : List X) (k : ℕ) (x : X) (y : Y) → k < length xs → get_or xs k x ≡ x → Contains (f x) y → Contains (flat_map f xs) y
at_place f [] k x y l e c = absurd (omega (arith, l))
at_place f (z ∷ zs) zero x y l e c = Contains-append_left (f z) (flat_map f zs) y (subst (λ w. Contains (f w) y) (sym e) c)
at_place f (z ∷ zs) (suc k) x y l e c = Contains-append_right (f z) (flat_map f zs) y (at_place f zs k x y (omega (arith, l)) e c)

-- a member of a part is a member of the whole
pub Contains-flat_map : {X Y : Type 0} (f : X → List Y) (xs : List X) (x : X) (y : Y) → Contains xs x → Contains (f x) y → Contains (flat_map f xs) y
Contains-flat_map f xs x y h c = at_place f xs h.0 x y h.1 h.2 c

pub Contains-nil : {X : Type 0} (x : X) → Contains [] x → ⊥
Contains-nil x h = omega (arith, h.1)
