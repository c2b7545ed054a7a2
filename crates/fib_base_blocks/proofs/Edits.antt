-- What an element that changes, comes or goes in a block makes of the list, and what blocks that come or go leave of it.
use Rattle.std.proofs.Common.{arith, ◌≡◌, ℕ, zero, suc, ◌+◌, ◌-◌, ◌<◌, ◌≤◌, get_or, length, take, drop, set, List, [], ◌∷◌, ◌++◌, inl, inr, refl, sym, ◌∙◌, ap, ap₂, subst, append_assoc, length-append}
use Rattle.std.specs.Prelude.{flat_map, slice_get}
use Rattle.std.specs.List.{insert, remove}
use Rattle.std.proofs.lemmas.List.{set_split, set-append_left, set-append_right, drop_all, take-append-drop}
use Rattle.std.proofs.lemmas.List.Edits.{insert-append_left, insert-append_right, remove-append_left, remove-append_right}
use Rattle.std.proofs.lemmas.Grind.{flat_map-append}
use Rattle.std.proofs.lemmas.Bool.{cases_lt}
use Rattle.fib_base_ordered.specs.inner.Blocks.{row}
use Rattle.std.proofs.lemmas.List.Concat.{get_or-flat_map}
use Rattle.fib_base_ordered.proofs.Rows.{whole_at, take_row, row_get}

module _ {T : Type 0} (a r c : List T) (n j : ℕ) (at : length a + j ≡ n) where
  back : n - length a ≡ j
  back = omega arith

  put_inside : (x : T) → j ≤ length r → insert (a ++ (r ++ c)) n x ≡ a ++ (insert r j x ++ c)
  put_inside x le = insert-append_right a (r ++ c) (length a) n x refl (omega arith) ∙ (ap (λ k. a ++ insert (r ++ c) k x) back ∙ ap (λ l. a ++ l) (insert-append_left r c j x le))

  out_inside : j < length r → remove (a ++ (r ++ c)) n ≡ a ++ (remove r j ++ c)
  out_inside lt = remove-append_right a (r ++ c) (length a) n refl (omega arith) ∙ (ap (λ k. a ++ remove (r ++ c) k) back ∙ ap (λ l. a ++ l) (remove-append_left r c j lt))

  set_inside : (x : T) → j < length r → set (a ++ (r ++ c)) n x ≡ a ++ (set r j x ++ c)
  set_inside x lt = set-append_right a (r ++ c) (length a) n x refl (omega arith) ∙ (ap (λ k. a ++ set (r ++ c) k x) back ∙ ap (λ l. a ++ l) (set-append_left r c j x lt))

module _ {X T : Type 0} (items : X → List T) where
  pub whole_long : (xs : List X) (i : ℕ) → i < length xs → length (flat_map items xs) ≡ length (flat_map items (take i xs)) + (length (row items (slice_get xs i)) + length (flat_map items (drop (suc i) xs)))
  whole_long xs i lt =
      let p : List T = flat_map items (take i xs) in
      let r : List T = row items (slice_get xs i) in
      let q : List T = flat_map items (drop (suc i) xs) in
      let e = ap length (whole_at items xs i lt) in
      omega (arith, e, length-append p (r ++ q), length-append r q)

  flat_set : (xs : List X) (i : ℕ) (y : X) → i < length xs → flat_map items (set xs i y) ≡ flat_map items (take i xs) ++ (items y ++ flat_map items (drop (suc i) xs))
  flat_set xs i y lt = ap (flat_map items) (set_split xs i y lt) ∙ flat_map-append items (take i xs) (y ∷ drop (suc i) xs)

  -- an element more
  pub list_put : (xs : List X) (i j n : ℕ) (y : X) (x : T) → i < length xs → length (flat_map items (take i xs)) + j ≡ n → j ≤ length (row items (slice_get xs i)) → items y ≡ insert (row items (slice_get xs i)) j x → flat_map items (set xs i y) ≡ insert (flat_map items xs) n x
  list_put xs i j n y x lt at le e =
      flat_set xs i y lt ∙ (ap (λ l. flat_map items (take i xs) ++ (l ++ flat_map items (drop (suc i) xs))) e
      ∙ (sym (put_inside (flat_map items (take i xs)) (row items (slice_get xs i)) (flat_map items (drop (suc i) xs)) n j at x le) ∙ sym (ap (λ l. insert l n x) (whole_at items xs i lt))))

  -- one less
  pub list_out : (xs : List X) (i j n : ℕ) (y : X) → i < length xs → length (flat_map items (take i xs)) + j ≡ n → j < length (row items (slice_get xs i)) → items y ≡ remove (row items (slice_get xs i)) j → flat_map items (set xs i y) ≡ remove (flat_map items xs) n
  list_out xs i j n y lt at less e =
      flat_set xs i y lt ∙ (ap (λ l. flat_map items (take i xs) ++ (l ++ flat_map items (drop (suc i) xs))) e
      ∙ (sym (out_inside (flat_map items (take i xs)) (row items (slice_get xs i)) (flat_map items (drop (suc i) xs)) n j at less) ∙ sym (ap (λ l. remove l n) (whole_at items xs i lt))))

  -- another one
  pub list_set : (xs : List X) (i j n : ℕ) (y : X) (x : T) → i < length xs → length (flat_map items (take i xs)) + j ≡ n → j < length (row items (slice_get xs i)) → items y ≡ set (row items (slice_get xs i)) j x → flat_map items (set xs i y) ≡ set (flat_map items xs) n x
  list_set xs i j n y x lt at less e =
      flat_set xs i y lt ∙ (ap (λ l. flat_map items (take i xs) ++ (l ++ flat_map items (drop (suc i) xs))) e
      ∙ (sym (set_inside (flat_map items (take i xs)) (row items (slice_get xs i)) (flat_map items (drop (suc i) xs)) n j at x less) ∙ sym (ap (λ l. set l n x) (whole_at items xs i lt))))

  -- a block that changes and has the same elements
  pub list_same : (xs : List X) (i : ℕ) (y : X) → i < length xs → items y ≡ row items (slice_get xs i) → flat_map items (set xs i y) ≡ flat_map items xs
  list_same xs i y lt e = flat_set xs i y lt ∙ (ap (λ l. flat_map items (take i xs) ++ (l ++ flat_map items (drop (suc i) xs))) e ∙ sym (whole_at items xs i lt))

  -- the element at a place
  pub list_get : (xs : List X) (i j n : ℕ) (x : X) (d : T) → i < length xs → length (flat_map items (take i xs)) + j ≡ n → j < length (row items (slice_get xs i)) → x ≡ get_or xs i x → get_or (flat_map items xs) n d ≡ get_or (items x) j d
  list_get xs i j n x d lt at less is =
      ap (λ k. get_or (flat_map items xs) k d) (sym at) ∙ (get_or-flat_map items xs i j x d lt (subst (λ (l : List T). j < length l) (row_get items xs i x lt) less) ∙ ap (λ z. get_or (items z) j d) (sym is))

  -- an empty block goes
  pub list_gone : (xs : List X) (i : ℕ) → i < length xs → row items (slice_get xs i) ≡ [] → flat_map items (remove xs i) ≡ flat_map items xs
  list_gone xs i lt e = flat_map-append items (take i xs) (drop (suc i) xs) ∙ (ap (λ l. flat_map items (take i xs) ++ (l ++ flat_map items (drop (suc i) xs))) (sym e) ∙ sym (whole_at items xs i lt))

  parts : (xs : List X) (i : ℕ) (y z : X) → i < length xs → flat_map items (insert (set xs i y) (suc i) z) ≡ flat_map items (take i xs) ++ ((items y ++ items z) ++ flat_map items (drop (suc i) xs))
  parts [] i y z lt = absurd (omega arith)
  parts (x ∷ xs) zero y z lt = sym (append_assoc (items y) (items z) (flat_map items xs))
  parts (x ∷ xs) (suc i) y z lt = ap (λ l. items x ++ l) (parts xs i y z (omega arith)) ∙ sym (append_assoc (items x) (flat_map items (take i xs)) ((items y ++ items z) ++ flat_map items (drop (suc i) xs)))

  -- a block in two
  pub list_split : (xs : List X) (i m : ℕ) (y z : X) → i < length xs → items y ≡ take m (row items (slice_get xs i)) → items z ≡ drop m (row items (slice_get xs i)) → flat_map items (insert (set xs i y) (i + 1) z) ≡ flat_map items xs
  list_split xs i m y z lt e f =
      let one : i + 1 ≡ suc i = omega arith in
      ap (λ k. flat_map items (insert (set xs i y) k z)) one ∙ (parts xs i y z lt
      ∙ (ap₂ (λ a b. flat_map items (take i xs) ++ ((a ++ b) ++ flat_map items (drop (suc i) xs))) e f
      ∙ (ap (λ l. flat_map items (take i xs) ++ (l ++ flat_map items (drop (suc i) xs))) (take-append-drop m (row items (slice_get xs i))) ∙ sym (whole_at items xs i lt))))

  pub take_long : (xs : List X) (i : ℕ) → i < length xs → length (flat_map items (take (i + 1) xs)) ≡ length (flat_map items (take i xs)) + length (row items (slice_get xs i))
  take_long xs i lt =
      let one : i + 1 ≡ suc i = omega arith in
      ap (λ k. length (flat_map items (take k xs))) one ∙ (ap length (take_row items xs i lt) ∙ length-append (flat_map items (take i xs)) (row items (slice_get xs i)))

  -- the last block that starts at a place or before it has that place
  pub slot_of : (xs : List X) (i j n : ℕ) → i < length xs → n ≤ length (flat_map items xs) → length (flat_map items (take i xs)) + j ≡ n → (i + 1 < length xs → n < length (flat_map items (take (i + 1) xs)))
      → (j ≤ length (row items (slice_get xs i))) × (n < length (flat_map items xs) → j < length (row items (slice_get xs i)))
  slot_of xs i j n lt le at next = elim (cases_lt (i + 1) (length xs)) [
    | inl more ↦ (let h = next more in (omega (arith, h, e), λ _. omega (arith, h, e)))
    | inr last ↦ (let none : flat_map items (drop (suc i) xs) ≡ [] = ap (flat_map items) (drop_all (suc i) xs (omega arith)) in
        let w = whole_long xs i lt in let z = ap length none in (omega (arith, w, z), λ less. omega (arith, w, z)))
  ]
    where
      e : length (flat_map items (take (i + 1) xs)) ≡ length (flat_map items (take i xs)) + length (row items (slice_get xs i))
      e = take_long xs i lt
