-- The test for walks through listed nodes finds each such walk, and nothing else.
use Rattle.std.proofs.Common.{◌≡◌, ℕ, zero, suc, Bool, true, false, ◌&&◌, ◌||◌, List, [], ◌∷◌, ◌⊎◌, inl, inr, refl, sym, subst, Decides}
use Rattle.std.specs.Prelude.{Contains}
use Rattle.std.specs.Cmp.{IsEquivalence}
use Rattle.std.specs.Set.{is_member}
use Rattle.std.proofs.lemmas.Bool.{false≢true}
use Rattle.std.proofs.lemmas.Map.Views.{list_any-from_Contains, Contains-from_any}
use Rattle.fib_reach.specs.Walks.{Walk, Reaches, Leads, Next}
use Rattle.fib_reach.specs.Search.{leads, leads_through}
use Rattle.fib_reach.proofs.Walking.{reaches_then, reaches_leads}
use Rattle.fib_base_list.proofs.Booleans.{or_cases, and_both, or_left, or_right}

and_true : (x y : Bool) → x ≡ true → y ≡ true → (x && y) ≡ true
and_true true y h k = k
and_true false y h k = absurd (false≢true h)

true_from : (b c : Bool) → (b ≡ true → c ≡ true) → (c ≡ true → b ≡ true) → b ≡ c
true_from true c f g = sym (f refl)
true_from false true f g = g refl
true_from false false f g = refl

-- a test that tells nodes apart is an equivalence
pub decides_equiv : {A : Type 0} (same : A → A → Bool) → ((x y : A) → Decides (same x y) (x ≡ y)) → IsEquivalence same
decides_equiv same is = record {
  refl = λ x. (is x x).1 refl;
  symm = λ x y. true_from (same x y) (same y x) (λ h. (is y x).1 (sym ((is x y).0 h))) (λ h. (is x y).1 (sym ((is y x).0 h)));
  congr = λ x y z h. subst (λ u. same x z ≡ same u z) ((is x y).0 h) refl;
}

-- a walk of one or more edges whose nodes between the ends are listed
pub data Thru {A : Type 0} (same : A → A → Bool) (next : A → List A) (mids : List A) : A → A → Type 0 where
  edge : {a b : A} → Contains (next a) b → Thru same next mids a b
  more : {a b : A} (c : A) → Contains (next a) c → is_member same mids c ≡ true → Thru same next mids c b → Thru same next mids a b

module _ {A : Type 0} (same : A → A → Bool) (is : (x y : A) → Decides (same x y) (x ≡ y)) (next : A → List A) where
  -- the test finds walks alone
  pub leads_through_sound : (mids : List A) (a b : A) → leads_through same next mids a b ≡ true → Reaches (Next next) a b
  unfolding leads_through
  leads_through_sound [] a b h =
      (0, (b, Contains-from_any (λ x y. (is x y).0) b (next a) h, refl))
  leads_through_sound (m ∷ ms) a b h =
      elim (or_cases (leads_through same next ms a b) (leads_through same next ms a m && leads_through same next ms m b) h) [
        | inl p ↦ leads_through_sound ms a b p
        | inr q ↦ (let both = and_both (leads_through same next ms a m) (leads_through same next ms m b) q in
            reaches_then (Next next) a m b (leads_through_sound ms a m both.0) (reaches_leads (Next next) m b (leads_through_sound ms m b both.1)))
      ]

  -- such a walk passes the first listed node or it does not
  split : (k : A) (ks : List A) (a b : A) → Thru same next (k ∷ ks) a b → Thru same next ks a b ⊎ (Thru same next ks a k × Thru same next ks k b)
  split k ks a b (edge e) = inl (edge e)
  split k ks a b (more c e m t) =
      elim (or_cases (same c k) (is_member same ks c) m) [
        | inl is_k ↦ (let here : Thru same next ks a k = edge (subst (λ x. Contains (next a) x) ((is c k).0 is_k) e) in
            elim (split k ks c b t) [
              | inl r ↦ inr (here, subst (λ x. Thru same next ks x b) ((is c k).0 is_k) r)
              | inr r ↦ inr (here, r.1)
            ])
        | inr is_in ↦ elim (split k ks c b t) [
          | inl r ↦ inl (more c e is_in r)
          | inr r ↦ inr (more c e is_in r.0, r.1)
        ]
      ]

  thru_none : (a b : A) → Thru same next [] a b → leads same next a b ≡ true
  thru_none a b (edge e) = list_any-from_Contains (decides_equiv same is) b (next a) e
  thru_none a b (more c e m t) = absurd (false≢true m)

  pub leads_through_complete : (mids : List A) (a b : A) → Thru same next mids a b → leads_through same next mids a b ≡ true
  unfolding leads_through
  leads_through_complete [] a b t = thru_none a b t
  leads_through_complete (m ∷ ms) a b t =
      elim (split m ms a b t) [
        | inl r ↦ or_left _ _ (leads_through_complete ms a b r)
        | inr r ↦ or_right (leads_through same next ms a b) _ (and_true _ _ (leads_through_complete ms a m r.0) (leads_through_complete ms m b r.1))
      ]

  -- a walk is listed where each node with an edge is
  thru_from_walk : (mids : List A) → ((x y : A) → Contains (next x) y → is_member same mids x ≡ true) → (n : ℕ) (a b : A) → Walk (Next next) (suc n) a b → Thru same next mids a b
  thru_from_walk mids listed zero a b w = edge (subst (λ x. Contains (next a) x) w.2 w.1)
  thru_from_walk mids listed (suc n) a b w = more w.0 w.1 (listed w.0 w.2.0 w.2.1) (thru_from_walk mids listed n w.0 b w.2)

  -- the test decides whether there is a walk of one or more edges
  pub leads_through-Decides : (mids : List A) → ((x y : A) → Contains (next x) y → is_member same mids x ≡ true) → (a b : A) → Decides (leads_through same next mids a b) (Reaches (Next next) a b)
  leads_through-Decides mids listed a b =
      (leads_through_sound mids a b, λ r. leads_through_complete mids a b (thru_from_walk mids listed r.0 a b r.1))

  -- the same node, or a walk of one or more edges: a walk of any number
  pub same_or_through-Decides : (mids : List A) → ((x y : A) → Contains (next x) y → is_member same mids x ≡ true) → (a b : A) → Decides (same a b || leads_through same next mids a b) (Leads (Next next) a b)
  same_or_through-Decides mids listed a b =
      let d = leads_through-Decides mids listed a b in (
        λ h. elim (or_cases (same a b) (leads_through same next mids a b) h) [
          | inl e ↦ (0, (is a b).0 e)
          | inr t ↦ reaches_leads (Next next) a b (d.0 t)
        ],
        λ l. by_length l.0 l.1,
      )
    where
      by_length : (n : ℕ) → Walk (Next next) n a b → (same a b || leads_through same next mids a b) ≡ true
      by_length zero w = or_left (same a b) (leads_through same next mids a b) ((is a b).1 w)
      by_length (suc n) w = or_right (same a b) (leads_through same next mids a b) ((leads_through-Decides mids listed a b).1 (n, w))
