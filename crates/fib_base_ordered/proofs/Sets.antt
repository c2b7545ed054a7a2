-- What a cut says of the members, and what a member more or less makes of look-ups.
use Rattle.std.proofs.Common.{arith, ◌≡◌, ℕ, ◌<◌, ◌≤◌, Bool, true, false, List, [], ◌∷◌, ◌++◌, ◌⊎◌, inl, inr, Option, Some, None, refl, sym, ◌∙◌, ap, subst, eq-eqb, ne_eqb, drop, append-nil}
use Rattle.std.specs.Prelude.{filter, nat_lt, nat_le, ◌==◌, if◌then◌else◌}
use Rattle.std.specs.List.{AllByRecursion}
use Rattle.std.proofs.lemmas.List.Elements.{filter-append}
use Rattle.std.proofs.lemmas.Bool.Decides.{nat_tests}
use native.Mathlib.Decide.{ℕ_discrete}
use mathlib.Core.Logic.{dite}
use Rattle.fib_base_ordered.specs.Sets.{IsAscending, found, below, above, from, first_of}
use Rattle.fib_base_ordered.specs.inner.Blocks.{IsCut}
use Rattle.fib_base_ordered.proofs.Cuts.{each_map, parts, joined}

filter_each : {X : Type 0} (p : X → Bool) (xs : List X) → AllByRecursion (λ x. p x ≡ true) xs → filter p xs ≡ xs
filter_each p [] h = refl
filter_each p (x ∷ xs) h = rw h.0 (ap (λ l. x ∷ l) (filter_each p xs h.1))

filter_no : {X : Type 0} (p : X → Bool) (xs : List X) → AllByRecursion (λ x. p x ≡ false) xs → filter p xs ≡ []
filter_no p [] h = refl
filter_no p (x ∷ xs) h = rw h.0 (filter_no p xs h.1)

lt_true : (a b : ℕ) → a < b → nat_lt a b ≡ true
lt_true a b h = grind (arith, nat_tests)

lt_false : (a b : ℕ) → b ≤ a → nat_lt a b ≡ false
lt_false a b h = grind (arith, nat_tests)

le_true : (a b : ℕ) → a ≤ b → nat_le a b ≡ true
le_true a b h = grind (arith, nat_tests)

le_false : (a b : ℕ) → b < a → nat_le a b ≡ false
le_false a b h = grind (arith, nat_tests)

module _ {T : Type 0} (rank : T → ℕ) where
  -- the member, where it has that key
  pub keyed : ℕ → Option T → Option T
  keyed key None = None
  keyed key (Some x) = if rank x == key then Some x else None

  module _ (key : ℕ) where
    past : (low high : List T) → AllByRecursion (λ x. rank x < key) low → found rank (low ++ high) key ≡ found rank high key
    past [] high h = refl
    past (x ∷ low) high h = let e : rank x == key ≡ false = ne_eqb (rank x) key (omega (arith, h.0)) in rw e (past low high h.1)

    pub found_none : (xs : List T) → AllByRecursion (λ x. key < rank x) xs → found rank xs key ≡ None
    found_none [] h = refl
    found_none (x ∷ xs) h = let e : rank x == key ≡ false = ne_eqb (rank x) key (omega (arith, h.0)) in rw e (found_none xs h.1)

    head : (xs : List T) → IsAscending rank xs → AllByRecursion (λ x. key ≤ rank x) xs → found rank xs key ≡ keyed key (first_of xs)
    unfolding keyed
    head [] asc h = refl
    head (x ∷ xs) asc h = dite (ℕ_discrete (rank x) key)
        (λ e. rw (eq-eqb (rank x) key e) refl)
        (λ ne. rw (ne_eqb (rank x) key ne) (found_none xs (each_map (λ y. rank x < rank y) (λ y. key < rank y) (λ y l. omega (arith, h.0)) xs asc.0)))

    module _ (xs low high : List T) (c : IsCut rank key xs low high) where
      pub below_is : below rank key xs ≡ low
      below_is = ap (below rank key) c.whole ∙ filter-append (λ x. nat_lt (rank x) key) low high
          ∙ ap (λ l. l ++ filter (λ x. nat_lt (rank x) key) high) (filter_each (λ x. nat_lt (rank x) key) low (each_map (λ x. rank x < key) (λ x. nat_lt (rank x) key ≡ true) (λ x l. lt_true (rank x) key l) low c.lower))
          ∙ ap (λ l. low ++ l) (filter_no (λ x. nat_lt (rank x) key) high (each_map (λ x. key ≤ rank x) (λ x. nat_lt (rank x) key ≡ false) (λ x l. lt_false (rank x) key l) high c.upper)) ∙ append-nil low

      pub from_is : from rank key xs ≡ high
      from_is = ap (from rank key) c.whole ∙ filter-append (λ x. nat_le key (rank x)) low high
          ∙ ap (λ l. l ++ filter (λ x. nat_le key (rank x)) high) (filter_no (λ x. nat_le key (rank x)) low (each_map (λ x. rank x < key) (λ x. nat_le key (rank x) ≡ false) (λ x l. le_false key (rank x) l) low c.lower))
          ∙ filter_each (λ x. nat_le key (rank x)) high (each_map (λ x. key ≤ rank x) (λ x. nat_le key (rank x) ≡ true) (λ x l. le_true key (rank x) l) high c.upper)

      pub above_is : (later : List T) → (high ≡ later) ⊎ ((x : T) × (high ≡ x ∷ later) × (rank x ≡ key)) → AllByRecursion (λ x. key < rank x) later → above rank key xs ≡ later
      above_is later way h =
          ap (above rank key) c.whole ∙ filter-append (λ x. nat_lt key (rank x)) low high
          ∙ ap (λ l. l ++ filter (λ x. nat_lt key (rank x)) high) (filter_no (λ x. nat_lt key (rank x)) low (each_map (λ x. rank x < key) (λ x. nat_lt key (rank x) ≡ false) (λ x l. lt_false key (rank x) (omega arith)) low c.lower))
          ∙ elim way [
            | inl e ↦ ap (filter (λ x. nat_lt key (rank x))) e ∙ rest
            | inr e ↦ ap (filter (λ x. nat_lt key (rank x))) e.1 ∙ (let f : nat_lt key (rank e.0) ≡ false = lt_false key (rank e.0) (omega (arith, e.2)) in rw f rest)
          ]
        where
          rest : filter (λ x. nat_lt key (rank x)) later ≡ later
          rest = filter_each (λ x. nat_lt key (rank x)) later (each_map (λ x. key < rank x) (λ x. nat_lt key (rank x) ≡ true) (λ x l. lt_true key (rank x) l) later h)

      module _ (asc : IsAscending rank xs) where
        pub halves : IsAscending rank low × IsAscending rank high × AllByRecursion (λ x. AllByRecursion (λ y. rank x < rank y) high) low
        halves = parts rank low high (subst (IsAscending rank) c.whole asc)

        pub found_is : found rank xs key ≡ keyed key (first_of high)
        found_is = ap (λ l. found rank l key) c.whole ∙ past low high c.lower ∙ head high halves.1 c.upper

        -- the first of those from the key on has a greater one
        pub strictly : found rank xs key ≡ None → AllByRecursion (λ x. key < rank x) high
        unfolding keyed
        strictly none = by_list high (sym found_is ∙ none) halves.1 c.upper
          where
            by_list : (ys : List T) → keyed key (first_of ys) ≡ None → IsAscending rank ys → AllByRecursion (λ x. key ≤ rank x) ys → AllByRecursion (λ x. key < rank x) ys
            by_list [] e a h = tt
            by_list (y ∷ ys) e a h = dite (ℕ_discrete (rank y) key)
                (λ same. let f : Some y ≡ None = (let g = eq-eqb (rank y) key same in rw g at e) in absurd (cc))
                (λ ne. let l : key < rank y = omega (arith, h.0) in (l, each_map (λ z. rank y < rank z) (λ z. key < rank z) (λ z m. omega arith) ys a.0))

    -- one more in the middle
    pub found_more : (low high : List T) (x : T) → rank x ≡ key → AllByRecursion (λ y. rank y < key) low → (other : ℕ) → found rank (low ++ (x ∷ high)) other ≡ (if key == other then Some x else found rank (low ++ high) other)
    found_more [] high x e h other = ap (λ k. if k == other then Some x else found rank high other) e
    found_more (y ∷ low) high x e h other = dite (ℕ_discrete (rank y) other)
        (λ same. let f : key == other ≡ false = ne_eqb key other (omega (arith, h.0)) in rw (eq-eqb (rank y) other same, f) refl)
        (λ ne. rw (ne_eqb (rank y) other ne) (found_more low high x e h.1 other))

    -- one less in the middle
    pub found_less : (low high : List T) (x : T) → rank x ≡ key → AllByRecursion (λ y. rank y < key) low → AllByRecursion (λ y. key < rank y) high → (other : ℕ) → found rank (low ++ high) other ≡ (if key == other then None else found rank (low ++ (x ∷ high)) other)
    found_less low high x e h k other = dite (ℕ_discrete key other)
        (λ same. rw (eq-eqb key other same) (subst (λ (o : ℕ). found rank (low ++ high) o ≡ None) same (past low high h ∙ found_none high k)))
        (λ ne. let f : key == other ≡ false = ne_eqb key other ne in rw f (sym (found_more low high x e h other ∙ (rw f refl))))

    pub ascending_more : (low high : List T) (x : T) → rank x ≡ key → IsAscending rank (low ++ high) → AllByRecursion (λ y. rank y < key) low → AllByRecursion (λ y. key < rank y) high → IsAscending rank (low ++ (x ∷ high))
    ascending_more low high x e asc h k =
        let p = parts rank low high asc in
        joined rank low (x ∷ high) p.0 (each_map (λ y. key < rank y) (λ y. rank x < rank y) (λ y l. omega arith) high k, p.1) (both low p.2 h)
      where
        both : (ys : List T) → AllByRecursion (λ y. AllByRecursion (λ z. rank y < rank z) high) ys → AllByRecursion (λ y. rank y < key) ys → AllByRecursion (λ y. AllByRecursion (λ z. rank y < rank z) (x ∷ high)) ys
        both [] p q = tt
        both (y ∷ ys) p q = let l : rank y < rank x = omega (arith, q.0) in ((l, p.0), both ys p.1 q.1)

    pub ascending_less : (low high : List T) (x : T) → IsAscending rank (low ++ (x ∷ high)) → IsAscending rank (low ++ high)
    ascending_less low high x asc =
        let p = parts rank low (x ∷ high) asc in
        joined rank low high p.0 p.1.1 (each_map (λ y. AllByRecursion (λ z. rank y < rank z) (x ∷ high)) (λ y. AllByRecursion (λ z. rank y < rank z) high) (λ y h. h.1) low p.2)

  -- what taking a member out, or in, makes of the members
  module _ (key : ℕ) (xs low high : List T) (c : IsCut rank key xs low high) (asc : IsAscending rank xs) where
    open_list : (ys : List T) (x : T) → first_of ys ≡ Some x → ys ≡ x ∷ drop 1 ys
    open_list [] x e = absurd (cc)
    open_list (y ∷ ys) x e = let f : y ≡ x = cc in ap (λ z. z ∷ ys) f

    pub absent : found rank xs key ≡ None → xs ≡ below rank key xs ++ above rank key xs
    absent none = c.whole ∙ sym (ap (λ l. l ++ above rank key xs) (below_is key xs low high c) ∙ ap (λ l. low ++ l) (above_is key xs low high c high (inl refl) (strictly key xs low high c asc none)))

    pub absent_found : found rank xs key ≡ None → (other : ℕ) → found rank xs other ≡ (if key == other then None else found rank xs other)
    absent_found none other = dite (ℕ_discrete key other)
        (λ same. rw (eq-eqb key other same) (subst (λ (o : ℕ). found rank xs o ≡ None) same none))
        (λ ne. let f : key == other ≡ false = ne_eqb key other ne in rw f refl)

    none_first : first_of high ≡ None → found rank xs key ≡ None
    unfolding keyed
    none_first e = found_is key xs low high c asc ∙ ap (keyed key) e

    pub no_first : first_of high ≡ None → found rank xs key ≡ None
    no_first e = none_first e

    pub other_first : (x : T) → first_of high ≡ Some x → (rank x ≡ key → ⊥) → found rank xs key ≡ None
    unfolding keyed
    other_first x e ne = found_is key xs low high c asc ∙ ap (keyed key) e ∙ (let f : rank x == key ≡ false = ne_eqb (rank x) key ne in rw f refl)

    pub same_first : (x : T) → first_of high ≡ Some x → rank x ≡ key → found rank xs key ≡ Some x
    unfolding keyed
    same_first x e same = found_is key xs low high c asc ∙ ap (keyed key) e ∙ (let f : rank x == key ≡ true = eq-eqb (rank x) key same in rw f refl)

    pub first_is : first_of high ≡ first_of (from rank key xs)
    first_is = ap first_of (sym (from_is key xs low high c))

    module _ (x : T) (first : first_of high ≡ Some x) (same : rank x ≡ key) where
      here : xs ≡ low ++ (x ∷ drop 1 high)
      here = c.whole ∙ ap (λ l. low ++ l) (open_list high x first)

      rest_above : AllByRecursion (λ y. key < rank y) (drop 1 high)
      rest_above = let h = (parts rank low (x ∷ drop 1 high) (subst (IsAscending rank) here asc)).1.0 in each_map (λ y. rank x < rank y) (λ y. key < rank y) (λ y l. omega arith) (drop 1 high) h

      pub out_members : low ++ drop 1 high ≡ below rank key xs ++ above rank key xs
      out_members = sym (ap (λ l. l ++ above rank key xs) (below_is key xs low high c) ∙ ap (λ l. low ++ l) (above_is key xs low high c (drop 1 high) (inr (x, open_list high x first, same)) rest_above))

      pub out_found : (other : ℕ) → found rank (low ++ drop 1 high) other ≡ (if key == other then None else found rank xs other)
      out_found other = found_less key low (drop 1 high) x same c.lower rest_above other ∙ ap (λ l. if key == other then None else found rank l other) (sym here)

      pub out_ascending : IsAscending rank (low ++ drop 1 high)
      out_ascending = ascending_less key low (drop 1 high) x (subst (IsAscending rank) here asc)

    module _ (none : found rank xs key ≡ None) (x : T) (same : rank x ≡ key) where
      pub in_members : low ++ (x ∷ high) ≡ below rank key xs ++ (x ∷ above rank key xs)
      in_members = sym (ap (λ l. l ++ (x ∷ above rank key xs)) (below_is key xs low high c) ∙ ap (λ l. low ++ (x ∷ l)) (above_is key xs low high c high (inl refl) (strictly key xs low high c asc none)))

      pub in_found : (other : ℕ) → found rank (low ++ (x ∷ high)) other ≡ (if key == other then Some x else found rank xs other)
      in_found other = found_more key low high x same c.lower other ∙ ap (λ l. if key == other then Some x else found rank l other) (sym c.whole)

      pub in_ascending : IsAscending rank (low ++ (x ∷ high))
      in_ascending = ascending_more key low high x same (subst (IsAscending rank) c.whole asc) c.lower (strictly key xs low high c asc none)

pub moved : {X A : Type 0} (f : List X → A) (a b : List X) (r : A) → a ≡ b → r ≡ f a → f b ≡ r
moved f a b r e h = sym (h ∙ ap f e)
