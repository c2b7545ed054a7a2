-- Maps to which pairs are added, and what they list.
use Rattle.std.proofs.Common.{arith, ◌≡◌, ℕ, Bool, true, false, cond, List, [], ◌∷◌, ◌++◌, map, Some, inl, inr, refl, sym, ◌∙◌, ap, subst, ◌↔◌}
use Rattle.std.specs.Prelude.{Contains, flat_map}
use Rattle.std.specs.List.{AllByRecursion}
use Rattle.std.specs.List.Sorted.{IsStrictlySortedBy}
use Rattle.std.specs.Map.{keys_of}
use Rattle.std.specs.declared.cmp.Ordering.{Ordering}
use Rattle.std.specs.declared.cmp.Ordering.TheVariants.{Less}
use Rattle.std.proofs.lemmas.Bool.{false≢true}
use Rattle.std.proofs.lemmas.List.Elements.{Contains-append_left, Contains-append_right, Contains-append_cases}
use Rattle.fib_base_list.proofs.Lists.{either, Contains-nil}
use Rattle.fib_resolve_changes.proofs.SamePairs.{map_in, map_from}
use Rattle.fib_print_listing.specs.Order.{IsOrderedBy}
use Rattle.fib_print_listing.specs.inner.Added.{under, Has, Adds}
use Rattle.fib_print_listing.proofs.Sorting.{cases, behind, only, stands}

some_as : {X : Type 0} (x y : X) → Some x ≡ Some y → x ≡ y
some_as x y e = (cc)

module _ {X K V : Type 0} (same : X → X → Bool) (at : K → X) (itself : (x : X) → same x x ≡ true) (is : (x y : X) → same x y ≡ true → x ≡ y) where
  -- one pair
  pub adds_one : (k : K) (v : V) (old new : List (K × V)) → ((x : X) → under same at x new ≡ cond (same (at k) x) (Some v) (under same at x old)) → Adds same at ((at k, v) ∷ []) old new
  adds_one k v old new sets = record {
    real = λ x w h. elim (either (same (at k) x)) [
      | inl here ↦ inl (0, omega arith, ap (λ y. (y, v)) (is (at k) x here) ∙ ap (λ u. (x, u)) (some_as v w (sym (ap (λ b. cond b (Some v) (under same at x old)) here) ∙ sym (sets x) ∙ h)))
      | inr off ↦ inr (sym (sets x ∙ ap (λ b. cond b (Some v) (under same at x old)) off) ∙ h)
    ];
    found = λ x w c. elim (cases (at k, v) (x, w) [] c) [
      | inl e ↦ (v, sets x ∙ ap (λ b. cond b (Some v) (under same at x old)) (subst (λ y. same (at k) y ≡ true) (ap (λ p. p.0) e) (itself (at k))))
      | inr none ↦ absurd (Contains-nil (x, w) none)
    ];
    stays = λ x had. elim (either (same (at k) x)) [
      | inl here ↦ (v, sets x ∙ ap (λ b. cond b (Some v) (under same at x old)) here)
      | inr off ↦ (had.0, sets x ∙ ap (λ b. cond b (Some v) (under same at x old)) off ∙ had.1)
    ];
  }

module _ {X K V : Type 0} (same : X → X → Bool) (at : K → X) where
  pub adds_none : (es : List (K × V)) → Adds same at [] es es
  adds_none es = record { real = λ x v h. inr h; found = λ x v c. absurd (Contains-nil (x, v) c); stays = λ x had. had }

  pub adds_more : (hs gs : List (X × V)) (a b c : List (K × V)) → Adds same at hs a b → Adds same at gs b c → Adds same at (hs ++ gs) a c
  adds_more hs gs a b c f g = record {
    real = λ x v h. elim (g.real x v h) [
      | inl new ↦ inl (Contains-append_right hs gs (x, v) new)
      | inr old ↦ elim (f.real x v old) [ inl new ↦ inl (Contains-append_left hs gs (x, v) new) | inr older ↦ inr older ]
    ];
    found = λ x v m. elim (Contains-append_cases hs gs (x, v) m) [ inl first ↦ g.stays x (f.found x v first) | inr last ↦ g.found x v last ];
    stays = λ x had. g.stays x (f.stays x had);
  }

-- the keys of a map are in order
pub keys_rise : {X K V : Type 0} (cmp : K → K → Ordering) (at : K → X) (before : X → X → Bool) → ((k l : K) → cmp k l ≡ Less → before (at k) (at l) ≡ true) → (es : List (K × V)) → IsStrictlySortedBy cmp (keys_of es) → IsOrderedBy before (map (λ e. at e.0) es)
unfolding IsStrictlySortedBy
keys_rise cmp at before lower [] h = tt
keys_rise {X} {K} {V} cmp at before lower (e ∷ es) h = (each es h.0, keys_rise cmp at before lower es h.1)
  where
    each : (fs : List (K × V)) → AllByRecursion (λ k. cmp e.0 k ≡ Less) (keys_of fs) → AllByRecursion (λ x. before (at e.0) x ≡ true) (map (λ f. at f.0) fs)
    each [] a = tt
    each (f ∷ fs) a = (lower e.0 f.0 a.0, each fs a.1)

-- what stands before is another
apart : {X : Type 0} (same before : X → X → Bool) → ((x y : X) → same x y ≡ true → x ≡ y) → ((x : X) → before x x ≡ false) → (x y : X) → before y x ≡ true → same x y ≡ false
apart same before is off x y h = elim (either (same x y)) [
  | inl here ↦ absurd (false≢true (sym (off y) ∙ subst (λ z. before y z ≡ true) (is x y here) h))
  | inr isnt ↦ isnt
]

-- a key that is there is found, and what is found is there
module _ {X K V : Type 0} (same : X → X → Bool) (at : K → X) (itself : (x : X) → same x x ≡ true) (is : (x y : X) → same x y ≡ true → x ≡ y) where
  abbrev key_at : K × V → X
  key_at e = at e.0

  has : (es : List (K × V)) (x : X) → Contains (map key_at es) x → Has same at x es
  has [] x c = absurd (Contains-nil x c)
  has (e ∷ es) x c =
      elim (either (same x (at e.0))) [
        | inl here ↦ (e.1, rw here refl)
        | inr off ↦ rw off (elim (cases (at e.0) x (map key_at es) c) [
          | inl e ↦ absurd (false≢true (sym off ∙ subst (λ y. same x y ≡ true) (sym e) (itself x)))
          | inr d ↦ has es x d
        ])
      ]

  there : (es : List (K × V)) (x : X) (v : V) → under same at x es ≡ Some v → Contains (map key_at es) x
  there [] x v h = absurd (cc)
  there (e ∷ es) x v h =
      elim (either (same x (at e.0))) [
        | inl here ↦ (0, omega arith, sym (is x (at e.0) here))
        | inr off ↦ behind (at e.0) x (map key_at es) (there es x v (rw off at h))
      ]

  module _ (before : X → X → Bool) (off : (x : X) → before x x ≡ false) (trans : (x y z : X) → before x y ≡ true → before y z ≡ true → before x z ≡ true) where
    -- each entry of a map in order is found by its own key
    own : (es : List (K × V)) → IsOrderedBy before (map key_at es) → (e : K × V) → Contains es e → under same at (at e.0) es ≡ Some e.1
    own [] o e c = absurd (Contains-nil e c)
    own (f ∷ fs) o e c = elim (cases f e fs c) [
      | inl here ↦ subst (λ (g : K × V). under same at (at g.0) (f ∷ fs) ≡ Some g.1) here (rw (itself (at f.0)) refl)
      | inr d ↦ (let away = apart same before is off (at e.0) (at f.0) (stands before off trans (at f.0) (at e.0) (map key_at fs) o.0 (map_in key_at fs e d)) in rw away (own fs o.1 e d))
    ]

    -- what a map in order tells of what was added to it
    module _ (news : List (X × V)) (es : List (K × V)) (adds : Adds same at news [] es) (o : IsOrderedBy before (map key_at es)) (value : X → V) (valued : (x : X) (v : V) → Contains news (x, v) → v ≡ value x) (text : X → V → List ℕ) where
      from_news : (x : X) (v : V) → under same at x es ≡ Some v → Contains news (x, v)
      from_news x v h = elim (adds.real x v h) [ inl new ↦ new | inr old ↦ absurd (cc) ]

      lines : (fs : List (K × V)) → ((e : K × V) → Contains fs e → e.1 ≡ value (at e.0)) → flat_map (λ e. text (at e.0) e.1) fs ≡ flat_map (λ x. text x (value x)) (map key_at fs)
      lines [] h = refl
      lines (f ∷ fs) h =
          ap (λ (v : V). text (at f.0) v ++ flat_map (λ e. text (at e.0) e.1) fs) (h f (0, omega arith, refl))
          ∙ ap (λ (l : List ℕ). text (at f.0) (value (at f.0)) ++ l) (lines fs (λ e c. h e (behind f e fs c)))

      pub told : (sorted : List X) → IsOrderedBy before sorted → ((x : X) → Contains sorted x ↔ Contains (map (λ n. n.0) news) x) → flat_map (λ e. text (at e.0) e.1) es ≡ flat_map (λ x. text x (value x)) sorted
      told sorted s members =
          lines es (λ e c. valued (at e.0) e.1 (from_news (at e.0) e.1 (own es o e c)))
          ∙ ap (flat_map (λ x. text x (value x))) (only before off trans (map key_at es) sorted o s (λ x. (
            λ c. (let h = has es x c in (members x).1 (map_in (λ n. n.0) news (x, h.0) (from_news x h.0 h.1))),
            λ c. (let n = map_from (λ n. n.0) news x ((members x).0 c) in let h = adds.found n.0.0 n.0.1 n.1 in there es x h.0 (subst (λ y. under same at y es ≡ Some h.0) n.2 h.1)),
          )))
