-- More rounds than entries change nothing.
use Rattle.std.proofs.Common.{arith, add-zero, add-suc, ◌-◌, ◌≡◌, ℕ, zero, suc, ◌+◌, ◌≤◌, Bool, true, false, ◌&&◌, List, [], ◌∷◌, length, inl, inr, refl, sym, ◌∙◌, ap, subst}
use mathlib.Core.Path.{fun_ext}
use Rattle.std.specs.List.{list_any}
use Rattle.std.specs.Set.{is_member}
use Rattle.std.proofs.lemmas.Bool.{false≢true}
use Rattle.fib_addr.specs.Prefixes.{Prefix, same_prefix, host}
use Rattle.fib_addr.proofs.PrefixLaws.{same_prefix-Decides}
use Rattle.fib_resolve.specs.Pairs.{entries, cover, chosen}
use Rattle.fib_resolve.specs.Forwarding.{usable, limit}
use Rattle.fib_resolve.specs.declared.types.PathKind.{PathKind}
use Rattle.fib_resolve.specs.declared.types.PathKind.TheVariants as kinds
use Rattle.fib_resolve.specs.declared.types.Tables.{Tables}
use Rattle.fib_reach.proofs.Rounds.{Agree, stable}
use Rattle.fib_base_list.proofs.Lists.{either}
use Rattle.fib_base_list.proofs.Booleans.{or_cases, or_right}
use Rattle.fib_resolve.proofs.Entries.{chosen-no_entry}
use Rattle.fib_urpf.specs.ReversePath.{kind_leads, leads_by, leads_in, is_reverse}

and_more : (x y z : Bool) → (y ≡ true → z ≡ true) → (x && y) ≡ true → (x && z) ≡ true
and_more true y z h k = h k
and_more false y z h k = k

module _ (S : Tables) (i : ℕ) where
  kind_more : (f g : Prefix → Bool) → ((e : Prefix) → f e ≡ true → g e ≡ true) → (e : Prefix) (kind : PathKind) → kind_leads S i f e kind ≡ true → kind_leads S i g e kind ≡ true
  kind_more f g h e kinds.Drop k = k
  kind_more f g h e kinds.Local k = k
  kind_more f g h e (kinds.Attached j) k = k
  kind_more f g h e (kinds.Hop a j) k = k
  kind_more f g h e (kinds.Recursive a) k = h (host a) k
  kind_more f g h e kinds.Cover k = h (cover S e.bits) k

  any_more : {X : Type 0} (p q : X → Bool) → ((x : X) → p x ≡ true → q x ≡ true) → (xs : List X) → list_any p xs ≡ true → list_any q xs ≡ true
  any_more p q h [] k = k
  any_more p q h (x ∷ xs) k =
      elim (or_cases (p x) (list_any p xs) k) [
        | inl l ↦ rw (h x l) refl
        | inr r ↦ or_right (q x) _ (any_more p q h xs r)
      ]

  leads_more : (f g : Prefix → Bool) → ((e : Prefix) → f e ≡ true → g e ≡ true) → (e : Prefix) → leads_by S i f e ≡ true → leads_by S i g e ≡ true
  leads_more f g h e k = any_more (λ p. usable S e p && kind_leads S i f e p.kind) (λ p. usable S e p && kind_leads S i g e p.kind)
      (λ p. and_more (usable S e p) (kind_leads S i f e p.kind) (kind_leads S i g e p.kind) (kind_more f g h e p.kind)) (chosen S e) k

  grows : (n : ℕ) (e : Prefix) → leads_in S i n e ≡ true → leads_in S i (suc n) e ≡ true
  unfolding leads_in
  grows zero e h = absurd (false≢true h)
  grows (suc n) e h = leads_more (leads_in S i n) (leads_in S i (suc n)) (grows n) e h

  -- what is no entry leads nowhere
  never : (n : ℕ) (e : Prefix) → is_member same_prefix (entries S) e ≡ false → leads_in S i n e ≡ false
  unfolding leads_in
  never zero e h = refl
  never (suc n) e h = rw (chosen-no_entry S e h) refl

  agree_at : (p q : Prefix → Bool) (xs : List Prefix) (e : Prefix) → Agree p q xs → is_member same_prefix xs e ≡ true → p e ≡ q e
  agree_at p q [] e h m = absurd (false≢true m)
  agree_at p q (x ∷ xs) e h m =
      elim (or_cases (same_prefix e x) (is_member same_prefix xs e) m) [
        | inl is ↦ subst (λ y. p y ≡ q y) (sym ((same_prefix-Decides e x).0 is)) h.0
        | inr isin ↦ agree_at p q xs e h.1 isin
      ]

  agree_everywhere : (n : ℕ) → Agree (leads_in S i n) (leads_in S i (suc n)) (entries S) → leads_in S i n ≡ leads_in S i (suc n)
  agree_everywhere n h = fun_ext (λ e.
      elim (either (is_member same_prefix (entries S) e)) [
        | inl is ↦ agree_at (leads_in S i n) (leads_in S i (suc n)) (entries S) e h is
        | inr isnt ↦ never n e isnt ∙ sym (never (suc n) e isnt)
      ])

  agree_all : (p q : Prefix → Bool) → p ≡ q → (xs : List Prefix) → Agree p q xs
  agree_all p q h [] = tt
  agree_all p q h (x ∷ xs) = (ap (λ (f : Prefix → Bool). f x) h, agree_all p q h xs)

  next_round : (n : ℕ) → leads_in S i n ≡ leads_in S i (suc n) → leads_in S i (suc n) ≡ leads_in S i (suc (suc n))
  unfolding leads_in
  next_round n h = ap (λ (f : Prefix → Bool). leads_by S i f) h

  pub one_more : (n : ℕ) → length (entries S) ≤ n → leads_in S i n ≡ leads_in S i (suc n)
  one_more n h =
      agree_everywhere n
      (stable (leads_in S i) (entries S) grows (λ k a. agree_all _ _ (next_round k (agree_everywhere k a)) (entries S)) n h)

  later : (m k : ℕ) → length (entries S) ≤ m → leads_in S i (m + k) ≡ leads_in S i m
  later m zero h = rw add-zero refl
  later m (suc k) h = rw add-suc (sym (one_more (m + k) (omega (arith, h))) ∙ later m k h)

  -- every number of rounds from the limit on gives the same
  pub reverse_steady : (n : ℕ) (e : Prefix) → limit S ≤ n → leads_in S i n e ≡ is_reverse S i e
  unfolding is_reverse limit
  reverse_steady n e h =
      let m = length (entries S) + 1 in
      let split : m + (n - m) ≡ n = omega (arith, h) in
      ap (λ (f : Prefix → Bool). f e) (rw split at (later m (n - m) (omega arith)))

  leads_suc : (n : ℕ) (e : Prefix) → leads_in S i (suc n) e ≡ leads_by S i (leads_in S i n) e
  unfolding leads_in
  leads_suc n e = refl

  -- an entry's interfaces are those of its usable paths
  pub reverse_paths : (e : Prefix) → is_reverse S i e ≡ leads_by S i (is_reverse S i) e
  unfolding is_reverse limit
  reverse_paths e = ap (λ (f : Prefix → Bool). f e) (one_more (length (entries S) + 1) (omega arith)) ∙ leads_suc (length (entries S) + 1) e
