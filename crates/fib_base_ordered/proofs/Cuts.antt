-- Lists in the order of keys, cut in two, and blocks of them.
use Rattle.std.proofs.Common.{arith, ◌≡◌, ℕ, zero, suc, ◌-◌, ◌<◌, ◌≤◌, get_or, length, take, drop, List, [], ◌∷◌, ◌++◌, inl, inr, refl, sym, ◌∙◌, ap, subst}
use Rattle.std.specs.Prelude.{flat_map, slice_get}
use Rattle.std.specs.List.{AllByRecursion}
use Rattle.std.proofs.lemmas.List.{drop_all}
use Rattle.std.proofs.lemmas.Bool.{cases_lt}
use native.Mathlib.Numerals.{unary_clauses}
use Rattle.fib_base_ordered.proofs.Rows.{whole_at, whole_cut, row_get, drop_row}
use Rattle.fib_base_ordered.specs.Sets.{IsAscending}
use Rattle.fib_base_ordered.specs.inner.Blocks.{IsCut, row, before, after, rank_of_first}

-- parts of what holds of each element
pub each_parts : {X : Type 0} (P : X → Type 0) (xs ys : List X) → AllByRecursion P (xs ++ ys) → AllByRecursion P xs × AllByRecursion P ys
each_parts P [] ys h = (tt, h)
each_parts P (x ∷ xs) ys h = let r = each_parts P xs ys h.1 in ((h.0, r.0), r.1)

pub each_join : {X : Type 0} (P : X → Type 0) (xs ys : List X) → AllByRecursion P xs → AllByRecursion P ys → AllByRecursion P (xs ++ ys)
each_join P [] ys h k = k
each_join P (x ∷ xs) ys h k = (h.0, each_join P xs ys h.1 k)

pub each_map : {X : Type 0} (P Q : X → Type 0) → ((x : X) → P x → Q x) → (xs : List X) → AllByRecursion P xs → AllByRecursion Q xs
each_map P Q f [] h = tt
each_map P Q f (x ∷ xs) h = (f x h.0, each_map P Q f xs h.1)

pub each_get : {X : Type 0} (P : X → Type 0) (xs : List X) (i : ℕ) (d : X) → i < length xs → AllByRecursion P xs → P (get_or xs i d)
each_get P [] i d lt h = absurd (omega arith)
each_get P (x ∷ xs) zero d lt h = h.0
each_get P (x ∷ xs) (suc i) d lt h = each_get P xs i d (omega arith) h.1

module _ {T : Type 0} (rank : T → ℕ) where
  pub parts : (xs ys : List T) → IsAscending rank (xs ++ ys) → IsAscending rank xs × IsAscending rank ys × AllByRecursion (λ x. AllByRecursion (λ y. rank x < rank y) ys) xs
  parts [] ys h = (tt, h, tt)
  parts (x ∷ xs) ys h =
      let e = each_parts (λ y. rank x < rank y) xs ys h.0 in
      let r = parts xs ys h.1 in
      ((e.0, r.0), r.1, (e.1, r.2))

  pub joined : (xs ys : List T) → IsAscending rank xs → IsAscending rank ys → AllByRecursion (λ x. AllByRecursion (λ y. rank x < rank y) ys) xs → IsAscending rank (xs ++ ys)
  joined [] ys h k c = k
  joined (x ∷ xs) ys h k c = (each_join (λ y. rank x < rank y) xs ys h.0 c.0, joined xs ys h.1 k c.1)

  -- the first of a part from an index on, and the last up to one, bound it
  pub from_on : (key : ℕ) (xs : List T) (j : ℕ) → IsAscending rank xs → ((d : T) → j < length xs → key ≤ rank (get_or xs j d)) → AllByRecursion (λ x. key ≤ rank x) (drop j xs)
  from_on key [] zero asc h = tt
  from_on key [] (suc j) asc h = tt
  from_on key (x ∷ xs) zero asc h = let k : key ≤ rank x = h x (omega arith) in (k, each_map (λ y. rank x < rank y) (λ y. key ≤ rank y) (λ y lt. omega arith) xs asc.0)
  from_on key (x ∷ xs) (suc j) asc h = from_on key xs j asc.1 (λ d lt. h d (omega arith))

  pub up_to : (key : ℕ) (xs : List T) (j : ℕ) → IsAscending rank xs → j ≤ length xs → ((d : T) → 0 < j → rank (get_or xs (j - 1) d) < key) → AllByRecursion (λ x. rank x < key) (take j xs)
  up_to key xs zero asc le h = tt
  up_to key [] (suc j) asc le h = tt
  up_to key (x ∷ xs) (suc zero) asc le h = (h x (omega arith), tt)
  up_to key (x ∷ xs) (suc (suc j)) asc le h =
      let last : rank (get_or xs j x) < key = simp unary_clauses at (h x (omega arith)) in
      let lt : rank x < rank (get_or xs j x) = each_get (λ y. rank x < rank y) xs j x (omega arith) asc.0 in
      (omega arith, up_to key xs (suc j) asc.1 (omega arith) (λ d _. simp unary_clauses (simp unary_clauses at (h d (omega arith)))))

  module _ {X : Type 0} (items : X → List T) where
    -- a nonempty list has its least key first
    first_least : (key : ℕ) (ys zs : List T) → 0 < length ys → key ≤ rank_of_first rank ys → IsAscending rank (ys ++ zs) → AllByRecursion (λ x. key ≤ rank x) (ys ++ zs)
    first_least key [] zs lt le asc = absurd (omega arith)
    first_least key (y ∷ ys) zs lt le asc = (le, each_map (λ x. rank y < rank x) (λ x. key ≤ rank x) (λ x l. omega arith) (ys ++ zs) asc.0)

    -- what stands before a nonempty list has lower keys than its first
    before_first : (key : ℕ) (xs ys zs : List T) → 0 < length ys → rank_of_first rank ys < key → IsAscending rank (xs ++ (ys ++ zs)) → AllByRecursion (λ x. rank x < key) xs
    before_first key xs [] zs lt l asc = absurd (omega arith)
    before_first key xs (y ∷ ys) zs lt l asc = each_map (λ x. AllByRecursion (λ z. rank x < rank z) (y ∷ (ys ++ zs))) (λ x. rank x < key) (λ x h. let k : rank x < rank y = h.0 in omega arith) xs (parts xs (y ∷ (ys ++ zs)) asc).2

    module _ (key : ℕ) (xs : List X) (r i j : ℕ) (some : 0 < length xs) (asc : IsAscending rank (flat_map items xs)) (full : AllByRecursion (λ x. 0 < length (items x)) xs)
        (bound : r ≤ length xs) (low : (d : X) → 0 < r → rank_of_first rank (items (get_or xs (r - 1) d)) < key) (high : (d : X) → r < length xs → key ≤ rank_of_first rank (items (get_or xs r d)))
        (is : i ≡ r - 1) (few : j ≤ length (row items (slice_get xs i))) (lower : (d : T) → 0 < j → rank (get_or (row items (slice_get xs i)) (j - 1) d) < key) (upper : (d : T) → j < length (row items (slice_get xs i)) → key ≤ rank (get_or (row items (slice_get xs i)) j d)) where
      inside : i < length xs
      inside = omega arith

      split : IsAscending rank (flat_map items (take i xs) ++ (row items (slice_get xs i) ++ flat_map items (drop (suc i) xs)))
      split = subst (IsAscending rank) (whole_at items xs i inside) asc

      rest : IsAscending rank (row items (slice_get xs i) ++ flat_map items (drop (suc i) xs))
      rest = (parts (flat_map items (take i xs)) (row items (slice_get xs i) ++ flat_map items (drop (suc i) xs)) split).1

      own : IsAscending rank (row items (slice_get xs i))
      own = (parts (row items (slice_get xs i)) (flat_map items (drop (suc i) xs)) rest).0

      long : (k : ℕ) → k < length xs → (d : X) → 0 < length (row items (slice_get xs k))
      long k lt d = subst (λ (l : List T). 0 < length l) (sym (row_get items xs k d lt)) (each_get (λ x. 0 < length (items x)) xs k d lt full)

      a_block : X
      a_block = by_list xs some
        where
          by_list : (ys : List X) → 0 < length ys → X
          by_list [] lt = absurd (omega arith)
          by_list (y ∷ ys) lt = y

      earlier : AllByRecursion (λ x. rank x < key) (flat_map items (take i xs))
      earlier = by_count r refl
        where
          by_count : (n : ℕ) → r ≡ n → AllByRecursion (λ x. rank x < key) (flat_map items (take i xs))
          by_count zero e = let f : i ≡ 0 = omega arith in rw f tt
          by_count (suc n) e =
              let f : i ≡ r - 1 = is in
              let h : rank_of_first rank (items (get_or xs (r - 1) a_block)) < key = low a_block (omega arith) in
              let h' : rank_of_first rank (row items (slice_get xs i)) < key = subst (λ (l : List T). rank_of_first rank l < key) (sym (row_get items xs i a_block inside)) (subst (λ (m : ℕ). rank_of_first rank (items (get_or xs m a_block)) < key) (sym f) h) in
              before_first key (flat_map items (take i xs)) (row items (slice_get xs i)) (flat_map items (drop (suc i) xs)) (long i inside a_block) h' split

      later : AllByRecursion (λ x. key ≤ rank x) (flat_map items (drop (suc i) xs))
      later = by_count r refl
        where
          by_count : (n : ℕ) → r ≡ n → AllByRecursion (λ x. key ≤ rank x) (flat_map items (drop (suc i) xs))
          by_count zero e =
              let f : r ≡ i = omega arith in
              let h : key ≤ rank_of_first rank (items (get_or xs r a_block)) = high a_block (omega arith) in
              let h' : key ≤ rank_of_first rank (row items (slice_get xs i)) = subst (λ (l : List T). key ≤ rank_of_first rank l) (sym (row_get items xs i a_block inside)) (subst (λ (m : ℕ). key ≤ rank_of_first rank (items (get_or xs m a_block))) f h) in
              (each_parts (λ x. key ≤ rank x) (row items (slice_get xs i)) (flat_map items (drop (suc i) xs)) (first_least key (row items (slice_get xs i)) (flat_map items (drop (suc i) xs)) (long i inside a_block) h' rest)).1
          by_count (suc n) e =
              let f : suc i ≡ r = omega arith in
              elim (cases_lt r (length xs)) [
                | inl lt ↦
                    (let h : key ≤ rank_of_first rank (row items (slice_get xs r)) = subst (λ (l : List T). key ≤ rank_of_first rank l) (sym (row_get items xs r a_block lt)) (high a_block lt) in
                    let next : IsAscending rank (flat_map items (drop (suc i) xs)) = (parts (row items (slice_get xs i)) (flat_map items (drop (suc i) xs)) rest).1 in
                    let here : flat_map items (drop (suc i) xs) ≡ row items (slice_get xs r) ++ flat_map items (drop (suc r) xs) = ap (λ m. flat_map items (drop m xs)) f ∙ drop_row items xs r lt in
                    subst (AllByRecursion (λ x. key ≤ rank x)) (sym here) (first_least key (row items (slice_get xs r)) (flat_map items (drop (suc r) xs)) (long r lt a_block) h (subst (IsAscending rank) here next)))
                | inr ge ↦ (let g : drop (suc i) xs ≡ [] = drop_all (suc i) xs (omega arith) in rw g tt)
              ]

      pub is_cut : IsCut rank key (flat_map items xs) (before items xs i j) (after items xs i j)
      is_cut = record {
        whole = whole_cut items xs i j inside;
        lower = each_join (λ x. rank x < key) (flat_map items (take i xs)) (take j (row items (slice_get xs i))) earlier (up_to key (row items (slice_get xs i)) j own few lower);
        upper = each_join (λ x. key ≤ rank x) (drop j (row items (slice_get xs i))) (flat_map items (drop (suc i) xs)) (from_on key (row items (slice_get xs i)) j own upper) later;
      }

      -- it is the first place of all, where it is the first of its block
      pub edge : j ≡ 0 → i ≡ 0
      edge e = by_count r refl
        where
          by_row : (l : List T) → 0 < length l → rank_of_first rank l < key → ((d : T) → key ≤ rank (get_or l 0 d)) → ⊥
          by_row [] lt h k = absurd (omega arith)
          by_row (y ∷ ys) lt h k = let m : key ≤ rank y = k y in omega arith

          by_count : (n : ℕ) → r ≡ n → i ≡ 0
          by_count zero f = omega arith
          by_count (suc n) f =
              let h : rank_of_first rank (items (get_or xs (r - 1) a_block)) < key = low a_block (omega arith) in
              let h' : rank_of_first rank (row items (slice_get xs i)) < key = subst (λ (l : List T). rank_of_first rank l < key) (sym (row_get items xs i a_block inside)) (subst (λ (m : ℕ). rank_of_first rank (items (get_or xs m a_block)) < key) (sym is) h) in
              absurd (by_row (row items (slice_get xs i)) (long i inside a_block) h' (λ d. subst (λ (m : ℕ). key ≤ rank (get_or (row items (slice_get xs i)) m d)) e (upper d (let g : 0 < length (row items (slice_get xs i)) = long i inside a_block in omega arith))))
