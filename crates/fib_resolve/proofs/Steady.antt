-- More rounds than entries change nothing.
use Rattle.std.proofs.Common.{arith, add-zero, add-suc, ◌-◌, ◌≡◌, ℕ, zero, suc, ◌+◌, ◌≤◌, Bool, true, false, not, ◌&&◌, List, [], ◌∷◌, length, inl, inr, refl, sym, ◌∙◌, ap, subst}
use mathlib.Core.Path.{fun_ext}
use Rattle.std.specs.List.{list_any}
use Rattle.std.specs.Set.{is_member}
use Rattle.std.proofs.lemmas.Bool.{false≢true}
use Rattle.fib_addr.specs.Prefixes.{Prefix, same_prefix, host}
use Rattle.fib_addr.proofs.PrefixLaws.{same_prefix-Decides}
use Rattle.fib_resolve.specs.Pairs.{entries, cover, chosen}
use Rattle.fib_resolve.specs.Loops.{looped}
use Rattle.fib_resolve.specs.Forwarding.{usable_kind, usable_by, forwards_by, forwards_in, forwards, limit, is_met}
use Rattle.fib_resolve.specs.declared.types.Need.{Need}
use Rattle.fib_resolve.specs.declared.types.PathKind.{PathKind}
use Rattle.fib_resolve.specs.declared.types.PathKind.TheVariants as kinds
use Rattle.fib_resolve.specs.declared.types.Tables.{Tables}
use Rattle.fib_reach.proofs.Rounds.{Agree, stable}
use Rattle.fib_base_list.proofs.Lists.{either}
use Rattle.fib_base_list.proofs.Booleans.{or_cases, or_right}
use Rattle.fib_resolve.proofs.Entries.{chosen-no_entry}

and_last : (x y z w : Bool) → (z ≡ true → w ≡ true) → (x && (y && z)) ≡ true → (x && (y && w)) ≡ true
and_last true true z w h k = h k
and_last true false z w h k = k
and_last false y z w h k = k

-- what is usable stays so where more forwards
usable_more : (S : Tables) (f g : Prefix → Bool) → ((e : Prefix) → f e ≡ true → g e ≡ true) → (e : Prefix) (need : Need) (kind : PathKind) → usable_kind S f e need kind ≡ true → usable_kind S g e need kind ≡ true
usable_more S f g h e need kinds.Drop k = k
usable_more S f g h e need kinds.Local k = k
usable_more S f g h e need (kinds.Attached i) k = k
usable_more S f g h e need (kinds.Hop a i) k = k
usable_more S f g h e need (kinds.Recursive a) k = and_last (not (looped S e a)) (is_met S need a) (f (host a)) (g (host a)) (h (host a)) k
usable_more S f g h e need kinds.Cover k = h (cover S e.bits) k

list_any_more : {X : Type 0} (p q : X → Bool) → ((x : X) → p x ≡ true → q x ≡ true) → (xs : List X) → list_any p xs ≡ true → list_any q xs ≡ true
list_any_more p q h [] k = k
list_any_more p q h (x ∷ xs) k =
    elim (or_cases (p x) (list_any p xs) k) [
      | inl l ↦ rw (h x l) refl
      | inr r ↦ or_right (q x) _ (list_any_more p q h xs r)
    ]

forwards_more : (S : Tables) (f g : Prefix → Bool) → ((e : Prefix) → f e ≡ true → g e ≡ true) → (e : Prefix) → forwards_by S f e ≡ true → forwards_by S g e ≡ true
unfolding forwards_by
forwards_more S f g h e k = list_any_more (usable_by S f e) (usable_by S g e) (λ p. usable_more S f g h e p.need p.kind) (chosen S e) k

pub grows : (S : Tables) (n : ℕ) (e : Prefix) → forwards_in S n e ≡ true → forwards_in S (suc n) e ≡ true
unfolding forwards_in
grows S zero e h = absurd (false≢true h)
grows S (suc n) e h = forwards_more S (forwards_in S n) (forwards_in S (suc n)) (grows S n) e h

-- what is no entry never forwards
pub never : (S : Tables) (n : ℕ) (e : Prefix) → is_member same_prefix (entries S) e ≡ false → forwards_in S n e ≡ false
unfolding forwards_in forwards_by
never S zero e h = refl
never S (suc n) e h = rw (chosen-no_entry S e h) refl

agree_at : (p q : Prefix → Bool) (xs : List Prefix) (e : Prefix) → Agree p q xs → is_member same_prefix xs e ≡ true → p e ≡ q e
agree_at p q [] e h m = absurd (false≢true m)
agree_at p q (x ∷ xs) e h m =
    elim (or_cases (same_prefix e x) (is_member same_prefix xs e) m) [
      | inl is ↦ subst (λ y. p y ≡ q y) (sym ((same_prefix-Decides e x).0 is)) h.0
      | inr isin ↦ agree_at p q xs e h.1 isin
    ]

pub agree_everywhere : (S : Tables) (n : ℕ) → Agree (forwards_in S n) (forwards_in S (suc n)) (entries S) → forwards_in S n ≡ forwards_in S (suc n)
agree_everywhere S n h = fun_ext (λ e.
    elim (either (is_member same_prefix (entries S) e)) [
      | inl is ↦ agree_at (forwards_in S n) (forwards_in S (suc n)) (entries S) e h is
      | inr isnt ↦ never S n e isnt ∙ sym (never S (suc n) e isnt)
    ])

agree_all : (p q : Prefix → Bool) → p ≡ q → (xs : List Prefix) → Agree p q xs
agree_all p q h [] = tt
agree_all p q h (x ∷ xs) = (ap (λ (f : Prefix → Bool). f x) h, agree_all p q h xs)

pub next_round : (S : Tables) (n : ℕ) → forwards_in S n ≡ forwards_in S (suc n) → forwards_in S (suc n) ≡ forwards_in S (suc (suc n))
unfolding forwards_in
next_round S n h = ap (λ (f : Prefix → Bool). forwards_by S f) h

pub one_more : (S : Tables) (n : ℕ) → length (entries S) ≤ n → forwards_in S n ≡ forwards_in S (suc n)
one_more S n h =
    agree_everywhere S n
    (stable (forwards_in S) (entries S) (grows S) (λ k a. agree_all _ _ (next_round S k (agree_everywhere S k a)) (entries S)) n h)

later : (S : Tables) (m k : ℕ) → length (entries S) ≤ m → forwards_in S (m + k) ≡ forwards_in S m
later S m zero h = rw add-zero refl
later S m (suc k) h = rw add-suc (sym (one_more S (m + k) (omega (arith, h))) ∙ later S m k h)

-- every number of rounds from the limit on gives the same
pub forwards_in-steady : (S : Tables) (n : ℕ) (e : Prefix) → limit S ≤ n → forwards_in S n e ≡ forwards S e
unfolding forwards limit
forwards_in-steady S n e h =
    let m = length (entries S) + 1 in
    let split : m + (n - m) ≡ n = omega (arith, h) in
    ap (λ (f : Prefix → Bool). f e) (rw split at (later S m (n - m) (omega arith)))
