-- What a search of walks has found so far.
use Rattle.std.proofs.Common.{arith, ◌≡◌, ℕ, zero, suc, ◌+◌, ◌<◌, ◌≤◌, Bool, true, false, not, List, [], ◌∷◌, ◌++◌, length, get_or, ◌⊎◌, inl, inr, refl, sym, ◌∙◌, ap, subst, Decides, length-append}
use Rattle.std.specs.Prelude.{Contains, count_by}
use Rattle.std.specs.Set.{is_member}
use Rattle.std.proofs.lemmas.Bool.{false≢true, cases_lt}
use Rattle.std.proofs.lemmas.Map.Views.{list_any-from_Contains, Contains-from_any}
use Rattle.fib_reach.specs.Walks.{Walk, Reaches, Next}
use Rattle.fib_reach.specs.Search.{added, add_one}
use Rattle.fib_reach.proofs.Places.{any_default}
use Rattle.fib_reach.proofs.Through.{decides_equiv}
use Rattle.fib_base_list.proofs.Lists.{either}
use Rattle.fib_base_list.proofs.Booleans.{or_cases, or_left, or_right, unit_of, count_by-cons}
use Rattle.fib_reach.proofs.Walking.{then_edge}

-- how many nodes are not seen
abbrev pub unseen : {A : Type 0} → (A → A → Bool) → List A → List A → ℕ
unseen same nodes seen = count_by (λ e. not (is_member same seen e)) nodes

-- each that is seen has a walk from the start, and each that is done has its edges' ends among the seen, and none to the end
pub record Explored {A : Type 0} (same : A → A → Bool) (next : A → List A) (nodes : List A) (from to : A) (seen : List A) (done : ℕ) : Type 0 where
  pub start : is_member same seen from ≡ true
  pub walked : (x : A) → is_member same seen x ≡ true → (n : ℕ) × Walk (Next next) n from x
  pub closed : (k : ℕ) (d : A) → k < done → (y : A) → is_member same (next (get_or seen k d)) y ≡ true → is_member same nodes y ≡ true → is_member same seen y ≡ true
  pub missed : (k : ℕ) (d : A) → k < done → is_member same (next (get_or seen k d)) to ≡ false

get_front : {A : Type 0} (xs ys : List A) (k : ℕ) (d : A) → k < length xs → get_or (xs ++ ys) k d ≡ get_or xs k d
get_front [] ys k d h = absurd (omega (arith, h))
get_front (x ∷ xs) ys zero d h = refl
get_front (x ∷ xs) ys (suc k) d h = get_front xs ys k d (omega (arith, h))

abbrev Front : {A : Type 0} → List A → List A → Type 0
Front {A} s t = (length s ≤ length t) × ((k : ℕ) (d : A) → k < length s → get_or t k d ≡ get_or s k d)

module _ {A : Type 0} (same : A → A → Bool) (is : (x y : A) → Decides (same x y) (x ≡ y)) where
  same_self : (x : A) → same x x ≡ true
  same_self x = (is x x).1 refl

  -- one more at the end
  push_keeps : (xs : List A) (x y : A) → is_member same xs y ≡ true → is_member same (xs ++ x ∷ []) y ≡ true
  push_keeps [] x y h = absurd (false≢true h)
  push_keeps (z ∷ zs) x y h = elim (or_cases (same y z) _ h) [ inl l ↦ or_left _ _ l | inr r ↦ or_right (same y z) _ (push_keeps zs x y r) ]

  push_has : (xs : List A) (x : A) → is_member same (xs ++ x ∷ []) x ≡ true
  push_has [] x = or_left _ _ (same_self x)
  push_has (z ∷ zs) x = or_right (same x z) _ (push_has zs x)

  push_cases : (xs : List A) (x y : A) → is_member same (xs ++ x ∷ []) y ≡ true → (is_member same xs y ≡ true) ⊎ (y ≡ x)
  push_cases [] x y h = elim (or_cases (same y x) false h) [ inl l ↦ inr ((is y x).0 l) | inr r ↦ absurd (false≢true r) ]
  push_cases (z ∷ zs) x y h =
      elim (or_cases (same y z) _ h) [
        | inl l ↦ inl (or_left _ _ l)
        | inr r ↦ elim (push_cases zs x y r) [ inl m ↦ inl (or_right (same y z) _ m) | inr e ↦ inr e ]
      ]

  -- what each push keeps, adding keeps
  grown : (nodes : List A) (P : List A → Type 0) (Q : A → Type 0) → ((s : List A) (x : A) → Q x → is_member same nodes x ≡ true → is_member same s x ≡ false → P s → P (s ++ x ∷ [])) → (next : List A) → ((x : A) → is_member same next x ≡ true → Q x) → (s : List A) → P s → P (added same nodes s next)
  grown nodes P Q step [] q s p = p
  grown nodes P Q step (x ∷ xs) q s p =
      grown nodes P Q step xs (λ y m. q y (or_right (same y x) _ m)) (add_one same nodes s x)
      (elim (either (is_member same nodes x)) [
        | inl is ↦ elim (either (is_member same s x)) [ inl there ↦ rw (is, there) p | inr new ↦ rw (is, new) (step s x (q x (or_left _ _ (same_self x))) is new p) ]
        | inr isnt ↦ rw isnt p
      ])

  keeps : (nodes next s : List A) (y : A) → is_member same s y ≡ true → is_member same (added same nodes s next) y ≡ true
  keeps nodes next s y h = grown nodes (λ t. is_member same t y ≡ true) (λ _. Unit {0}) (λ t x q e n p. push_keeps t x y p) next (λ x m. tt) s h

  takes : (nodes next s : List A) (y : A) → is_member same next y ≡ true → is_member same nodes y ≡ true → is_member same (added same nodes s next) y ≡ true
  takes nodes [] s y h e = absurd (false≢true h)
  takes nodes (x ∷ xs) s y h e =
      elim (or_cases (same y x) _ h) [
        | inl l ↦ (let is_x = (is y x).0 l in
            keeps nodes xs (add_one same nodes s x) y
            (elim (either (is_member same s x)) [
              | inl there ↦ rw (is_x, there, subst (λ z. is_member same nodes z ≡ true) is_x e) there
              | inr new ↦ rw (is_x, new, subst (λ z. is_member same nodes z ≡ true) is_x e) (push_has s x)
            ]))
        | inr r ↦ takes nodes xs (add_one same nodes s x) y r e
      ]

  less : (t : List A) (x e : A) → unit_of (not (is_member same (t ++ x ∷ []) e)) ≤ unit_of (not (is_member same t e))
  less t x e = elim (either (is_member same t e)) [ inl h ↦ rw (h, push_keeps t x e h) (omega arith) | inr h ↦ rw h (elim (either (is_member same (t ++ x ∷ []) e)) [ inl k ↦ rw k (omega arith) | inr k ↦ rw k (omega arith) ]) ]

  unseen_no_more : (es t : List A) (x : A) → unseen same es (t ++ x ∷ []) ≤ unseen same es t
  unseen_no_more [] t x = omega arith
  unseen_no_more (e ∷ es) t x =
      omega (arith, less t x e, unseen_no_more es t x, count_by-cons (λ d. not (is_member same (t ++ x ∷ []) d)) e es, count_by-cons (λ d. not (is_member same t d)) e es)

  unseen_less : (es t : List A) (x : A) → is_member same es x ≡ true → is_member same t x ≡ false → unseen same es (t ++ x ∷ []) < unseen same es t
  unseen_less [] t x h n = absurd (false≢true h)
  unseen_less (e ∷ es) t x h n =
      let a = count_by-cons (λ d. not (is_member same (t ++ x ∷ []) d)) e es in
      let b = count_by-cons (λ d. not (is_member same t d)) e es in
      elim (or_cases (same x e) _ h) [
        | inl l ↦ (let is_x = (is x e).0 l in
            let new : unit_of (not (is_member same t e)) ≡ 1 = rw (← is_x, n) refl in
            let old : unit_of (not (is_member same (t ++ x ∷ []) e)) ≡ 0 = rw (← is_x, push_has t x) refl in
            omega (arith, a, b, new, old, unseen_no_more es t x))
        | inr r ↦ omega (arith, a, b, less t x e, unseen_less es t x r n)
      ]

  -- the nodes not yet done grow fewer
  pub measured : (nodes next s : List A) → unseen same nodes (added same nodes s next) + length (added same nodes s next) ≤ unseen same nodes s + length s
  measured nodes next s =
      grown nodes (λ t. unseen same nodes t + length t ≤ unseen same nodes s + length s) (λ _. Unit {0})
      (λ t x q e n p. omega (arith, p, unseen_less nodes t x e n, length-append t (x ∷ []))) next (λ x m. tt) s (omega arith)

  place_of : (xs : List A) (x : A) → is_member same xs x ≡ true → (k : ℕ) × (k < length xs) × ((d : A) → get_or xs k d ≡ x)
  place_of [] x h = absurd (false≢true h)
  place_of (z ∷ zs) x h =
      elim (or_cases (same x z) _ h) [
        | inl l ↦ (0, omega arith, λ d. sym ((is x z).0 l))
        | inr r ↦ (let p = place_of zs x r in (suc p.0, omega (arith, p.1), p.2))
      ]

  front : (nodes next s : List A) → Front s (added same nodes s next)
  front nodes next s =
      grown nodes (Front s) (λ _. Unit {0})
      (λ t x q e n p. (omega (arith, p.0, length-append t (x ∷ [])), λ k d h. get_front t (x ∷ []) k d (omega (arith, h, p.0)) ∙ p.1 k d h)) next (λ x m. tt) s (omega arith, λ k d h. refl)

  pub length-added : (nodes next s : List A) → length s ≤ length (added same nodes s next)
  length-added nodes next s = (front nodes next s).0

  contained : (xs : List A) (y : A) → is_member same xs y ≡ true → Contains xs y
  contained xs y m = Contains-from_any (λ a b. (is a b).0) y xs m

  next_walk : (next : A → List A) (n : ℕ) (a b c : A) → Walk (Next next) n a b → Contains (next b) c → Reaches (Next next) a c
  next_walk next n a b c w h = then_edge (Next next) a b c (n, w) h

  module _ (next : A → List A) (nodes : List A) (from to : A) where
    -- at the start the first node alone is seen
    pub explored_start : Explored same next nodes from to (from ∷ []) 0
    explored_start = record {
      start = or_left _ _ (same_self from);
      walked = λ x m. elim (or_cases (same x from) false m) [ inl e ↦ (0, sym ((is x from).0 e)) | inr r ↦ absurd (false≢true r) ];
      closed = λ k d l. absurd (omega (arith, l));
      missed = λ k d l. absurd (omega (arith, l));
    }

    -- an edge to the end from a node that is seen is a walk
    pub found : (s : List A) (i : ℕ) (d : A) → i < length s → Explored same next nodes from to s i → is_member same (next (get_or s i d)) to ≡ true → Reaches (Next next) from to
    found s i d h x m =
        let here : is_member same s (get_or s i d) ≡ true = list_any-from_Contains (decides_equiv same is) (get_or s i d) s (i, h, any_default s i (get_or s i d) d h) in
        let w = x.walked (get_or s i d) here in
        next_walk next w.0 from (get_or s i d) to w.1 (contained (next (get_or s i d)) to m)

    -- one more node is done
    pub explored_step : (s : List A) (i : ℕ) (d : A) → i < length s → Explored same next nodes from to s i → is_member same (next (get_or s i d)) to ≡ false → Explored same next nodes from to (added same nodes s (next (get_or s i d))) (i + 1)
    explored_step s i d h x m =
        let ns = next (get_or s i d) in
        let f = front nodes ns s in
        let here : is_member same s (get_or s i d) ≡ true = list_any-from_Contains (decides_equiv same is) (get_or s i d) s (i, h, any_default s i (get_or s i d) d h) in
        let w = x.walked (get_or s i d) here in
        record {
          start = keeps nodes ns s from x.start;
          walked = grown nodes (λ t. (y : A) → is_member same t y ≡ true → (n : ℕ) × Walk (Next next) n from y) (λ y. (n : ℕ) × Walk (Next next) n from y)
              (λ t y q e n p z k. elim (push_cases t y z k) [ inl l ↦ p z l | inr r ↦ subst (λ v. (n : ℕ) × Walk (Next next) n from v) (sym r) q ]) ns
              (λ y k. let r = next_walk next w.0 from (get_or s i d) y w.1 (contained ns y k) in (suc r.0, r.1)) s x.walked;
          closed = λ k e l y a b. elim (cases_lt k i) [
            | inl lt ↦ keeps nodes ns s y (x.closed k e lt y (subst (λ v. is_member same (next v) y ≡ true) (f.1 k e (omega (arith, lt, h))) a) b)
            | inr le ↦ (let at_i : k ≡ i = omega (arith, le, l) in
                takes nodes ns s y (subst (λ v. is_member same (next v) y ≡ true) (f.1 k e (omega (arith, at_i, h)) ∙ (ap (λ (j : ℕ). get_or s j e) at_i ∙ any_default s i e d h)) a) b)
          ];
          missed = λ k e l. elim (cases_lt k i) [
            | inl lt ↦ subst (λ v. is_member same (next v) to ≡ false) (sym (f.1 k e (omega (arith, lt, h)))) (x.missed k e lt)
            | inr le ↦ (let at_i : k ≡ i = omega (arith, le, l) in
                subst (λ v. is_member same (next v) to ≡ false) (sym (f.1 k e (omega (arith, at_i, h)) ∙ (ap (λ (j : ℕ). get_or s j e) at_i ∙ any_default s i e d h))) m)
          ];
        }

    none_from : ((x y : A) → Contains (next x) y → is_member same nodes x ≡ true) → (s : List A) (i : ℕ) → length s ≤ i → Explored same next nodes from to s i → (n : ℕ) (x : A) → is_member same s x ≡ true → Walk (Next next) (suc n) x to → ⊥
    none_from listed s i h e zero x m w =
        let p = place_of s x m in
        let there : is_member same (next x) to ≡ true = list_any-from_Contains (decides_equiv same is) to (next x) (subst (λ v. Contains (next x) v) w.2 w.1) in
        false≢true (sym (subst (λ v. is_member same (next v) to ≡ false) (p.2 x) (e.missed p.0 x (omega (arith, p.1, h)))) ∙ there)
    none_from listed s i h e (suc n) x m w =
        let p = place_of s x m in
        let edge : is_member same (next (get_or s p.0 x)) w.0 ≡ true = subst (λ v. is_member same (next v) w.0 ≡ true) (sym (p.2 x)) (list_any-from_Contains (decides_equiv same is) w.0 (next x) w.1) in
        none_from listed s i h e n w.0 (e.closed p.0 x (omega (arith, p.1, h)) w.0 edge (listed w.0 w.2.0 w.2.1)) w.2

    -- where each node that is seen is done, there is no walk
    pub none : ((x y : A) → Contains (next x) y → is_member same nodes x ≡ true) → (s : List A) (i : ℕ) → length s ≤ i → Explored same next nodes from to s i → Reaches (Next next) from to → ⊥
    none listed s i h e r = none_from listed s i h e r.0 from e.start r.1
