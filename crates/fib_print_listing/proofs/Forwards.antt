-- Which entries forward, found in the order of their ranks.
use Rattle.std.proofs.Common.{arith, ◌≡◌, ℕ, zero, suc, ◌+◌, ◌<◌, ◌≤◌, Bool, true, false, ◌&&◌, List, [], ◌∷◌, length, take, Some, ◌⊎◌, inl, inr, refl, sym, ◌∙◌, ap, subst, slice_get}
use Rattle.std.specs.Prelude.{Contains}
use Rattle.std.specs.List.{list_any}
use Rattle.std.proofs.lemmas.Bool.{false≢true}
use Rattle.std.proofs.lemmas.List.Elements.{Contains-append_cases}
use Rattle.fib_base_list.proofs.Lists.{either, Contains-nil}
use Rattle.fib_base_list.proofs.Booleans.{and_both, or_cases, or_left, or_right}
use Rattle.fib_addr.specs.Prefixes.{Prefix, same_prefix}
use Rattle.fib_addr.proofs.PrefixLaws.{same_prefix-Decides}
use Rattle.fib_resolve.specs.Forwarding.{forwards}
use Rattle.fib_resolve.specs.Aims.{marked_list}
use Rattle.fib_resolve.specs.declared.aims.Aim.{Aim}
use Rattle.fib_resolve.specs.declared.aims.Aim.TheVariants as aims
use Rattle.fib_resolve.specs.declared.aims.Marked.{Marked}
use Rattle.fib_resolve.specs.declared.types.Tables.{Tables}
use Rattle.fib_resolve_changes.specs.Ranks.{leads_on, is_usable_mark, is_aimed_at, counts_on, has_entry, IsRanked}
use Rattle.fib_resolve_changes.proofs.CauseLaws.{any_from}
use Rattle.fib_resolve_changes.proofs.Edits.{any_in, in_cases}
use Rattle.fib_base_interned.proofs.Finding.{contains_at, get_take}
use Rattle.fib_print_listing.specs.inner.Forwards.{has_prefix, AddsWhere, IsByRank, AreSoFar, AreForwarding}
use Rattle.fib_print_listing.proofs.Taking.{take_at, place_in}

-- a path that is usable stays so where more entries forward
usable_still : (f g : Prefix → Bool) (m : Marked) → ((t : Prefix) → m.counts ≡ true → m.aim ≡ aims.On t → f t ≡ true → g t ≡ true) → is_usable_mark f m ≡ true → is_usable_mark g m ≡ true
usable_still f g m more h = by m.counts m.aim more h
  where
    by : (b : Bool) (a : Aim) → ((t : Prefix) → b ≡ true → a ≡ aims.On t → f t ≡ true → g t ≡ true) → (b && leads_on f a) ≡ true → (b && leads_on g a) ≡ true
    by false a more h = h
    by true (aims.Ends end) more h = refl
    by true (aims.On t) more h = more t refl refl h

any_still : (f g : Prefix → Bool) (ms : List Marked) → ((m : Marked) (t : Prefix) → Contains ms m → m.counts ≡ true → m.aim ≡ aims.On t → f t ≡ true → g t ≡ true) → list_any (is_usable_mark f) ms ≡ true → list_any (is_usable_mark g) ms ≡ true
any_still f g ms more h = let r = any_from (is_usable_mark f) ms h in any_in (is_usable_mark g) ms r.0 r.1 (usable_still f g r.0 (λ t c a. more r.0 t r.1 c a) r.2)

-- a path that counts is one of those that count on its target
counts : (ms : List Marked) (m : Marked) (t : Prefix) → Contains ms m → m.counts ≡ true → m.aim ≡ aims.On t → counts_on ms t ≡ true
counts ms m t c is_open aim =
    let here : is_aimed_at t m.aim ≡ true = ap (is_aimed_at t) aim ∙ (same_prefix-Decides t t).1 refl in
    any_in (λ n. n.counts && is_aimed_at t n.aim) ms m c (rw is_open here)

module _ (S : Tables) (rank : Prefix → ℕ) (ranked : IsRanked S rank) where
  -- where none forwards that doesn't
  sound : (ks : List Prefix) → ((p : Prefix) → has_prefix ks p ≡ true → forwards S p ≡ true) → (e : Prefix) → list_any (is_usable_mark (has_prefix ks)) (marked_list S e) ≡ true → forwards S e ≡ true
  sound ks real e h = ranked.forwarding e ∙ any_still (has_prefix ks) (forwards S) (marked_list S e) (λ m t c is_open aim f. real t f) h

  -- and each of a lower rank is known
  complete : (ks : List Prefix) (e : Prefix) → ((t : Prefix) → has_entry S t ≡ true → rank t < rank e → forwards S t ≡ true → has_prefix ks t ≡ true) → forwards S e ≡ true → list_any (is_usable_mark (has_prefix ks)) (marked_list S e) ≡ true
  complete ks e lower h =
      any_still (forwards S) (has_prefix ks) (marked_list S e) (λ m t c is_open aim f. (let w = ranked.falls e t (ranked.woken e t (counts (marked_list S e) m t c is_open aim)) in lower t w.0 w.1 f)) (sym (ranked.forwarding e) ∙ h)

  forwards_entry : (e : Prefix) → forwards S e ≡ true → has_entry S e ≡ true
  forwards_entry e h = elim (either (has_entry S e)) [
    | inl is ↦ is
    | inr isnt ↦ absurd (false≢true (sym (ranked.forwarding e ∙ ap (list_any (is_usable_mark (forwards S))) (ranked.absent e isnt)) ∙ h))
  ]

  module _ (xs : List (ℕ × Prefix)) (by_rank : IsByRank S rank xs) where
    pub so_far_none : AreSoFar S xs 0 []
    so_far_none = record { real = λ p h. absurd (false≢true h); found = λ x c f. absurd (Contains-nil x c) }

    -- an entry of a lower rank stands before
    before : (n : ℕ) (x : ℕ × Prefix) → slice_get xs n ≡ Some x → (t : Prefix) → has_entry S t ≡ true → rank t < rank x.1 → Contains (take n xs) (rank t, t)
    before n x at t member lower =
        let p = place_in xs (rank t, t) (by_rank.found t member) in
        let m : ℕ = p.0 in
        let own : x.0 ≡ rank x.1 = by_rank.own x (contains_at xs n x at) in
        elim (three m n) [
          | inl lt ↦ contains_at (take n xs) m (rank t, t) (get_take xs n m lt ∙ p.1)
          | inr ge ↦ (let le = by_rank.rising n m x (rank t, t) ge at p.1 in absurd (omega (arith, le, lower, own)))
        ]
      where
        three : (m n : ℕ) → (m < n) ⊎ (n ≤ m)
        three zero zero = inr (omega arith)
        three zero (suc n) = inl (omega arith)
        three (suc m) zero = inr (omega arith)
        three (suc m) (suc n) = elim (three m n) [ inl a ↦ inl (omega (arith, a)) | inr a ↦ inr (omega (arith, a)) ]

    pub so_far_more : (n : ℕ) (x : ℕ × Prefix) (old new : List Prefix) → slice_get xs n ≡ Some x → AreSoFar S xs n old → AddsWhere (marked_list S x.1) x.1 old new → AreSoFar S xs (n + 1) new
    so_far_more n x old new at so adds = record {
      real = λ p h. elim (or_cases (has_prefix old p) (same_prefix p x.1 && list_any (is_usable_mark (has_prefix old)) (marked_list S x.1)) (sym (adds p) ∙ h)) [
        | inl had ↦ so.real p had
        | inr new ↦ (let both = and_both (same_prefix p x.1) (list_any (is_usable_mark (has_prefix old)) (marked_list S x.1)) new in
            subst (λ q. forwards S q ≡ true) (sym ((same_prefix-Decides p x.1).0 both.0)) (sound old so.real x.1 both.1))
      ];
      found = λ y c f. elim (Contains-append_cases (take n xs) (x ∷ []) y (subst (λ l. Contains l y) (take_at xs n x at) c)) [
        | inl earlier ↦ adds y.1 ∙ or_left (has_prefix old y.1) (same_prefix y.1 x.1 && list_any (is_usable_mark (has_prefix old)) (marked_list S x.1)) (so.found y earlier f)
        | inr last ↦ elim (in_cases x y [] last) [
          | inr none ↦ absurd (Contains-nil y none)
          | inl is ↦ subst (λ (z : ℕ × Prefix). has_prefix new z.1 ≡ true) is (here (subst (λ (z : ℕ × Prefix). forwards S z.1 ≡ true) (sym is) f))
        ]
      ];
    }
      where
        here : forwards S x.1 ≡ true → has_prefix new x.1 ≡ true
        here f =
            let all = complete old x.1 (λ t member lower g. so.found (rank t, t) (before n x at t member lower) g) f in
            let self : same_prefix x.1 x.1 ≡ true = (same_prefix-Decides x.1 x.1).1 refl in
            adds x.1 ∙ or_right (has_prefix old x.1) (same_prefix x.1 x.1 && list_any (is_usable_mark (has_prefix old)) (marked_list S x.1)) (rw self all)

    pub so_far_all : (ks : List Prefix) → AreSoFar S xs (length xs) ks → AreForwarding S ks
    so_far_all ks so p = elim (either (has_prefix ks p)) [
      | inl is ↦ is ∙ sym (so.real p is)
      | inr isnt ↦ elim (either (forwards S p)) [
        | inr off ↦ isnt ∙ sym off
        | inl f ↦ absurd (false≢true (sym isnt ∙ so.found (rank p, p) (subst (λ l. Contains l (rank p, p)) (sym (whole xs)) (by_rank.found p (forwards_entry p f))) f))
      ]
    ]
      where
        whole : (ys : List (ℕ × Prefix)) → take (length ys) ys ≡ ys
        whole [] = refl
        whole (y ∷ ys) = ap (λ zs. y ∷ zs) (whole ys)
