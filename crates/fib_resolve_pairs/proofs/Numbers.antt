-- Entries and their numbers.
use Rattle.std.proofs.Common.{arith, ◌≡◌, ℕ, suc, ◌<◌, Bool, true, false, List, [], ◌∷◌, map, length, get_or, Option, Some, None, ◌⊎◌, inl, inr, refl, sym, ◌∙◌, ap}
use Rattle.std.specs.Prelude.{position, is_none, IfSome}
use Rattle.std.specs.List.{AllByRecursion, list_any, position_or_len}
use Rattle.std.specs.Set.{is_member}
use Rattle.std.proofs.lemmas.Bool.{false≢true, lt-ltb}
use Rattle.std.proofs.lemmas.List.Quantifiers.{position-Some}
use Rattle.std.proofs.lemmas.List.Sums.{position_or_len_is}
use Rattle.std.proofs.lemmas.List.{get_or-map}
use Rattle.std.proofs.lemmas.Map.Keys.{apart_from_distinct}
use Rattle.fib_addr.specs.Prefixes.{Prefix, same_prefix}
use Rattle.fib_addr.proofs.PrefixLaws.{same_prefix-Decides, same_prefix_equiv}
use Rattle.fib_resolve.specs.Pairs.{pairs, entries, best_pair}
use Rattle.fib_resolve.proofs.Apart.{each-without_place}
use Rattle.fib_resolve.proofs.Covering.{entries_apart}
use Rattle.fib_resolve.proofs.Entries.{is_entry, no_pair}
use Rattle.fib_resolve.specs.declared.pairs.Pair.{Pair}
use Rattle.fib_resolve.specs.declared.types.Tables.{Tables}
use Rattle.fib_resolve_pairs.specs.Numbers.{number_in}
use Rattle.fib_resolve_pairs.specs.inner.Places.{pair_at}

nothing : Prefix
nothing = record { bits = 0; len = 0 }

some_below : (n : ℕ) (o : Option ℕ) → ((i : ℕ) → o ≡ Some i → i < n) → IfSome o (λ k. k < n)
some_below n None h = tt
some_below n (Some i) h = h i refl

pub number_below : (es : List Prefix) (p : Prefix) (o : Option ℕ) → o ≡ position (same_prefix p) es → IfSome o (λ k. k < length es)
number_below es p o h = some_below (length es) o (λ i e. (position-Some (same_prefix p) es i nothing (sym h ∙ e)).0)

-- the entry with that number
pub numbered : (S : Tables) (p : Prefix) (i : ℕ) → number_in S p ≡ Some i → (i < length (entries S)) × ((d : Prefix) → get_or (entries S) i d ≡ p)
unfolding number_in
numbered S p i h =
    ((position-Some (same_prefix p) (entries S) i p h).0, λ d. sym ((same_prefix-Decides p (get_or (entries S) i d)).0 (position-Some (same_prefix p) (entries S) i d h).1))

-- two entries with one number are one
pub one_number : (S : Tables) (p q : Prefix) (i : ℕ) → number_in S p ≡ Some i → number_in S q ≡ Some i → p ≡ q
one_number S p q i h k = sym ((numbered S p i h).1 p) ∙ (numbered S q i k).1 p

-- what has no number is no entry
pub unnumbered : (S : Tables) (p : Prefix) → number_in S p ≡ None → is_member same_prefix (entries S) p ≡ false
unfolding number_in
unnumbered S p h = none_passes (same_prefix p) (entries S) (each-without_place (same_prefix p) (entries S) (ap is_none h))
  where
    none_passes : (test : Prefix → Bool) (xs : List Prefix) → AllByRecursion (λ x. test x ≡ false) xs → list_any test xs ≡ false
    none_passes test [] k = refl
    none_passes test (x ∷ xs) k = rw k.0 (none_passes test xs k.1)

some_place : {X : Type 0} (o : Option X) → (o ≡ None) ⊎ ((x : X) × (o ≡ Some x))
some_place None = inl refl
some_place (Some x) = inr (x, refl)

-- each entry has a number
pub number_of_entry : (S : Tables) (p : Prefix) → is_member same_prefix (entries S) p ≡ true → (i : ℕ) × (number_in S p ≡ Some i)
number_of_entry S p h =
    elim (some_place (number_in S p)) [
      | inl none ↦ absurd (false≢true (sym (unnumbered S p none) ∙ h))
      | inr found ↦ found
    ]

-- the entry at a place has that number
pub number_at : (S : Tables) (i : ℕ) (d : Prefix) → i < length (entries S) → number_in S (get_or (entries S) i d) ≡ Some i
unfolding number_in
number_at S i d h =
    let es = entries S in
    let e = get_or es i d in
    let first : position_or_len (same_prefix e) es ≡ i =
    position_or_len_is (same_prefix e) es i d (omega (arith, h)) (λ k l. same_prefix_equiv.symm e (get_or es k d) ∙ apart_from_distinct same_prefix es k i d (entries_apart S) l h) (λ l. same_prefix_equiv.refl e) in
    rw first (rw (lt-ltb i (length es) h) refl)

-- what has no number has no pair
pub no_best : (S : Tables) (p : Prefix) → number_in S p ≡ None → best_pair p (pairs S) ≡ None
no_best S p h = no_pair p (pairs S) (sym (is_entry S p) ∙ unnumbered S p h)

-- the place of an entry's best pair, by the entry's number
pub best_numbered : (S : Tables) (xs : List Pair) (best : List (Option ℕ)) → map (pair_at xs) best ≡ map (λ e. best_pair e (pairs S)) (entries S) →
    (p : Prefix) (i : ℕ) (d : Option ℕ) → number_in S p ≡ Some i → i < length best → pair_at xs (get_or best i d) ≡ best_pair p (pairs S)
best_numbered S xs best same p i d h l =
    let n = numbered S p i h in
    sym (get_or-map (pair_at xs) best i d None l)
    ∙ (ap (λ (ys : List (Option Pair)). get_or ys i None) same
    ∙ (get_or-map (λ e. best_pair e (pairs S)) (entries S) i p None n.0 ∙ ap (λ e. best_pair e (pairs S)) (n.1 p)))

pub length_from_maps : {X Y Z : Type 0} (f : X → Z) (g : Y → Z) (xs : List X) (ys : List Y) → map f xs ≡ map g ys → length xs ≡ length ys
length_from_maps f g [] [] h = refl
length_from_maps f g [] (y ∷ ys) h = cc
length_from_maps f g (x ∷ xs) [] h = cc
length_from_maps f g (x ∷ xs) (y ∷ ys) h = ap suc (length_from_maps f g xs ys (tails h))
  where
    tails : {W : Type 0} {a b : W} {as' bs : List W} → a ∷ as' ≡ b ∷ bs → as' ≡ bs
    tails e = cc

pub number_of_below : (S : Tables) (p : Prefix) (o : Option ℕ) → o ≡ number_in S p → IfSome o (λ k. k < length (entries S))
unfolding number_in
number_of_below S p o h = number_below (entries S) p o h

pub number_known : (S : Tables) (p : Prefix) (es : List Prefix) → es ≡ entries S → position (same_prefix p) es ≡ number_in S p
unfolding number_in
number_known S p es h = ap (position (same_prefix p)) h
