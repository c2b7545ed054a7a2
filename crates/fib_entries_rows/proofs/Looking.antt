-- What a binary search finds among rows in order.
use Rattle.std.proofs.Common.{arith, ◌≡◌, ℕ, zero, suc, ◌<◌, ◌≤◌, Bool, true, List, [], ◌∷◌, length, map, Some, None, inl, inr, refl, sym, ◌∙◌, ap, subst, slice_get}
use Rattle.std.specs.Prelude.{Contains, find, slice_index_or}
use Rattle.std.specs.List.{AllByRecursion, HoldsAt}
use Rattle.std.specs.List.Sorted.{IsStrictlySortedBy, IsNonDecreasingBy, IsPartitionPoint}
use Rattle.std.specs.Ordering.{ordering_index}
use Rattle.std.specs.declared.cmp.Ordering.{Ordering}
use Rattle.std.specs.declared.cmp.Ordering.TheVariants.{Less, Equal, Greater}
use Rattle.std.specs.Cmp.{tied_itself}
use Rattle.std.proofs.lemmas.Bool.{false≢true, cases_lt}
use Rattle.std.proofs.lemmas.Option.{slice_get_within}
use Rattle.fib_base_list.proofs.Lists.{either, Contains-nil}
use Rattle.fib_addr.specs.Prefixes.{Prefix, same_prefix}
use Rattle.fib_addr.proofs.PrefixLaws.{same_prefix-Decides}
use Rattle.fib_cover.specs.Covers.{prefix_cmp, IsAscending}
use Rattle.fib_cover.proofs.Order.{prefix_total, prefix_exact}
use Rattle.fib_resolve_changes.proofs.Edits.{in_cases}
use Rattle.fib_base_interned.proofs.Finding.{some_is, none_some, find_only, find_none}

pub never : (p : Prefix) → prefix_cmp p p ≡ Less → ⊥
never p h = less_equal (sym h ∙ tied_itself prefix_total p)
  where
    less_equal : Less ≡ Equal → ⊥
    less_equal e = (cc)

-- the order to one prefix rises along the rows
rises : (p q e : Prefix) → prefix_cmp p q ≡ Less → ordering_index (prefix_cmp p e) ≤ ordering_index (prefix_cmp q e)
rises p q e lt = by (prefix_cmp p e) (prefix_cmp q e) refl refl
  where
    clash : (a b : Ordering) → a ≡ Less → b ≡ a → b ≡ Equal → ⊥
    clash a b x y z = (let w = sym z ∙ (y ∙ x) in flip w)
      where
        flip : Equal ≡ Less → ⊥
        flip v = (cc)

    by : (a b : Ordering) → prefix_cmp p e ≡ a → prefix_cmp q e ≡ b → ordering_index a ≤ ordering_index b
    by Less b x y = omega arith
    by Equal Less x y = (let z = prefix_total.trans p q e lt y in absurd (two z x))
      where
        two : prefix_cmp p e ≡ Less → prefix_cmp p e ≡ Equal → ⊥
        two a b = (cc)
    by Equal Equal x y = omega arith
    by Equal Greater x y = omega arith
    by Greater Less x y = (let z = prefix_total.trans p q e lt y in absurd (two z x))
      where
        two : prefix_cmp p e ≡ Less → prefix_cmp p e ≡ Greater → ⊥
        two a b = (cc)
    by Greater Equal x y = absurd (two (sym (ap (λ z. prefix_cmp p z) (prefix_exact q e y)) ∙ lt) x)
      where
        two : prefix_cmp p e ≡ Less → prefix_cmp p e ≡ Greater → ⊥
        two a b = (cc)
    by Greater Greater x y = omega arith

module _ {X : Type 0} (key : X → Prefix) where
  -- the row at a place where the order is equal has that prefix
  equal_is : (e : Prefix) (r : X) → prefix_cmp (key r) e ≡ Equal → same_prefix e (key r) ≡ true
  equal_is e r h = (same_prefix-Decides e (key r)).1 (sym (prefix_exact (key r) e h))

  later_less : (p : Prefix) (rows : List X) → AllByRecursion (λ q. prefix_cmp p q ≡ Less) (map key rows) → (j : ℕ) (r : X) → slice_get rows j ≡ Some r → prefix_cmp p (key r) ≡ Less
  later_less p [] all j r at = absurd (none_some r at)
  later_less p (q ∷ qs) all zero r at = subst (λ z. prefix_cmp p (key z) ≡ Less) (some_is q r at) all.0
  later_less p (q ∷ qs) all (suc j) r at = later_less p qs all.1 j r at

  -- two rows at two places have two prefixes
  pub one_place : (rows : List X) → IsAscending (map key rows) → (i j : ℕ) (q r : X) → slice_get rows i ≡ Some q → slice_get rows j ≡ Some r → (key q) ≡ (key r) → i ≡ j
  unfolding IsStrictlySortedBy
  one_place [] asc i j q r a b same = absurd (none_some q a)
  one_place (x ∷ xs) asc zero zero q r a b same = refl
  one_place (x ∷ xs) asc zero (suc j) q r a b same =
      absurd (never (key r) (subst (λ z. prefix_cmp z (key r) ≡ Less) (ap (λ z. (key z)) (some_is x q a) ∙ same) (later_less (key x) xs asc.0 j r b)))
  one_place (x ∷ xs) asc (suc i) zero q r a b same =
      absurd (never (key q) (subst (λ z. prefix_cmp z (key q) ≡ Less) (ap (λ z. (key z)) (some_is x r b) ∙ sym same) (later_less (key x) xs asc.0 i q a)))
  one_place (x ∷ xs) asc (suc i) (suc j) q r a b same = ap suc (one_place xs asc.1 i j q r a b same)

  pub at_place : (rows : List X) (i : ℕ) → i < length rows → (r : X) × (slice_get rows i ≡ Some r)
  at_place [] i lt = absurd (omega (arith, lt))
  at_place (x ∷ xs) zero lt = (x, refl)
  at_place (x ∷ xs) (suc i) lt = at_place xs i (omega (arith, lt))

  pub holds_there : (P : X → Type 0) (rows : List X) (i : ℕ) (r : X) → HoldsAt P rows i → slice_get rows i ≡ Some r → P r
  holds_there P [] i r h at = absurd (none_some r at)
  holds_there P (x ∷ xs) zero r h at = subst P (some_is x r at) (h x)
  holds_there P (x ∷ xs) (suc i) r h at = holds_there P xs i r h at

  -- what is found is the prefix's row
  pub found_row : (rows : List X) (e : Prefix) (i : ℕ) → IsAscending (map key rows) → i < length rows → HoldsAt (λ r. prefix_cmp (key r) e ≡ Equal) rows i → slice_get rows i ≡ find (λ z. same_prefix e (key z)) rows
  found_row rows e i asc lt h =
      let r = at_place rows i lt in
      let is = holds_there (λ r. prefix_cmp (key r) e ≡ Equal) rows i r.0 h r.1 in
      r.1 ∙ sym (find_only (λ z. same_prefix e (key z)) rows i r.0 r.1 (equal_is e r.0 is)
      (λ j q b same. one_place rows asc j i q r.0 b r.1 (sym ((same_prefix-Decides e (key q)).0 same) ∙ (same_prefix-Decides e (key r.0)).0 (equal_is e r.0 is))))

  pub rising : (rows : List X) (e : Prefix) → IsAscending (map key rows) → IsNonDecreasingBy (λ r. ordering_index (prefix_cmp (key r) e)) rows
  unfolding IsStrictlySortedBy
  rising [] e asc i j d le lt = absurd (omega (arith, lt))
  rising (x ∷ xs) e asc zero zero d le lt = omega arith
  rising (x ∷ xs) e asc zero (suc j) d le lt =
      let r = at_place xs j (omega (arith, lt)) in
      subst (λ z. ordering_index (prefix_cmp (key x) e) ≤ ordering_index (prefix_cmp (key z) e)) (sym (same_default xs j r.0 d r.1)) (rises (key x) (key r.0) e (later_less (key x) xs asc.0 j r.0 r.1))
    where
      same_default : (xs : List X) (j : ℕ) (r d : X) → slice_get xs j ≡ Some r → slice_index_or xs j d ≡ r
      same_default [] j r d at = absurd (none_some r at)
      same_default (y ∷ ys) zero r d at = some_is y r at
      same_default (y ∷ ys) (suc j) r d at = same_default ys j r d at
  rising (x ∷ xs) e asc (suc i) zero d le lt = absurd (omega (arith, le))
  rising (x ∷ xs) e asc (suc i) (suc j) d le lt = rising xs e asc.1 i j d (omega (arith, le)) (omega (arith, lt))

  -- where the search ends without an equal row there is none
  pub no_row : (rows : List X) (e : Prefix) (i : ℕ) → IsAscending (map key rows)
      → (IsNonDecreasingBy (λ r. ordering_index (prefix_cmp (key r) e)) rows → IsPartitionPoint (λ r. prefix_cmp (key r) e ≡ Less) (λ r. prefix_cmp (key r) e ≡ Greater) rows i) → None ≡ find (λ z. same_prefix e (key z)) rows
  no_row rows e i asc part =
      let p = part (rising rows e asc) in
      sym (find_none (λ z. same_prefix e (key z)) rows (λ j r at same.
      let is = subst (λ z. prefix_cmp (key r) z ≡ Equal) (sym ((same_prefix-Decides e (key r)).0 same)) (tied_itself prefix_total (key r)) in
      let within = slice_get_within rows j r at in
      elim (cases_lt j i) [
        | inl low ↦ clash_less r (sym is ∙ holds_there (λ z. prefix_cmp (key z) e ≡ Less) rows j r (λ d. p.0 j d (omega arith) low) at)
        | inr high ↦ clash_more r (sym is ∙ holds_there (λ z. prefix_cmp (key z) e ≡ Greater) rows j r (λ d. p.1 j d high within) at)
      ]))
    where
      clash_less : (r : X) → Equal ≡ Less → ⊥
      clash_less r v = (cc)

      clash_more : (r : X) → Equal ≡ Greater → ⊥
      clash_more r v = (cc)

  -- what is found has that key
  pub found_key : (rows : List X) (e : Prefix) (i : ℕ) → i < length rows → HoldsAt (λ r. prefix_cmp (key r) e ≡ Equal) rows i → (r : X) × (slice_get rows i ≡ Some r) × (key r ≡ e)
  found_key rows e i lt h =
      let r = at_place rows i lt in
      (r.0, r.1, prefix_exact (key r.0) e (holds_there (λ r. prefix_cmp (key r) e ≡ Equal) rows i r.0 h r.1))

  missed : (test : X → Bool) (rows : List X) (r : X) → Contains rows r → test r ≡ true → None ≡ find test rows → ⊥
  missed test [] r c t h = Contains-nil r c
  missed test (q ∷ qs) r c t h = elim (either (test q)) [
    | inl is ↦ none_some q (rw is at h)
    | inr isnt ↦ elim (in_cases q r qs c) [ inl same ↦ false≢true (sym isnt ∙ ap test same ∙ t) | inr later ↦ missed test qs r later t (rw isnt at h) ]
  ]

  -- where nothing is found nothing has it
  pub no_key : (rows : List X) (e : Prefix) (i : ℕ) → IsAscending (map key rows)
      → (IsNonDecreasingBy (λ r. ordering_index (prefix_cmp (key r) e)) rows → IsPartitionPoint (λ r. prefix_cmp (key r) e ≡ Less) (λ r. prefix_cmp (key r) e ≡ Greater) rows i) → (r : X) → Contains rows r → key r ≡ e → ⊥
  no_key rows e i asc part r c is = missed (λ z. same_prefix e (key z)) rows r c ((same_prefix-Decides e (key r)).1 (sym is)) (no_row rows e i asc part)

same_list : (xs : List Prefix) → map (λ q. q) xs ≡ xs
same_list [] = refl
same_list (x ∷ xs) = ap (λ l. x ∷ l) (same_list xs)

-- a prefix has one place in an order
pub one_in_order : (order : List Prefix) → IsAscending order → (i j : ℕ) (p : Prefix) → slice_get order i ≡ Some p → slice_get order j ≡ Some p → i ≡ j
one_in_order order asc i j p a b = one_place (λ q. q) order (subst IsAscending (sym (same_list order)) asc) i j p p a b refl
