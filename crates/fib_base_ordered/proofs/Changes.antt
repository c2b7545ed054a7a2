-- Blocks that change, come and go.
use Rattle.std.proofs.Common.{arith, ◌≡◌, ℕ, zero, suc, ◌+◌, ◌<◌, ◌≤◌, get_or, length, take, drop, set, List, [], ◌∷◌, ◌++◌, Some, refl, sym, ◌∙◌, ap, subst, append_assoc, ap₂, get_or-set_same, length-set}
use Rattle.std.specs.Prelude.{flat_map, slice_get, insert, remove, vec_capacity}
use Rattle.std.specs.List.{AllByRecursion}
use Rattle.std.proofs.lemmas.List.{set_split, take-append-drop, length-take-le}
use lib.Seq.{take-append-add, drop-append-add}
use Rattle.std.proofs.lemmas.List.{take-set, drop-set-lt}
use Rattle.std.proofs.lemmas.Option.{slice_get-get_or}
use Rattle.fib_base_ordered.proofs.Rows.{whole_at}
use Rattle.std.proofs.lemmas.Grind.{flat_map-append}
use Rattle.fib_base_ordered.specs.declared.block.Block.{Block}
use Rattle.fib_base_ordered.specs.inner.Blocks.{row, before, after, items_of, IsFilled, IsIdle, IsWide}
use Rattle.fib_base_ordered.proofs.Cuts.{each_map, each_join, each_parts}

module _ {T : Type 0} where
  pub all_some : (xs : List (Block T)) → AllByRecursion IsFilled xs → AllByRecursion (λ b. 0 < length (items_of b)) xs
  all_some xs h = each_map IsFilled (λ b. 0 < length (items_of b)) (λ b f. f.some) xs h

  pub filled_at : (xs : List (Block T)) (i : ℕ) (d : Block T) → i < length xs → AllByRecursion IsFilled xs → IsFilled (get_or xs i d)
  filled_at [] i d lt h = absurd (omega arith)
  filled_at (x ∷ xs) zero d lt h = h.0
  filled_at (x ∷ xs) (suc i) d lt h = filled_at xs i d (omega arith) h.1

  pub each_set : (P : Block T → Type 0) (xs : List (Block T)) (i : ℕ) (y : Block T) → P y → AllByRecursion P xs → AllByRecursion P (set xs i y)
  each_set P [] i y p h = tt
  each_set P (x ∷ xs) zero y p h = (p, h.1)
  each_set P (x ∷ xs) (suc i) y p h = (h.0, each_set P xs i y p h.1)

  pub each_take : (P : Block T → Type 0) (i : ℕ) (xs : List (Block T)) → AllByRecursion P xs → AllByRecursion P (take i xs)
  each_take P i xs h = (each_parts P (take i xs) (drop i xs) (subst (AllByRecursion P) (sym (take-append-drop i xs)) h)).0

  pub each_drop : (P : Block T → Type 0) (i : ℕ) (xs : List (Block T)) → AllByRecursion P xs → AllByRecursion P (drop i xs)
  each_drop P i xs h = (each_parts P (take i xs) (drop i xs) (subst (AllByRecursion P) (sym (take-append-drop i xs)) h)).1

  pub each_insert : (P : Block T → Type 0) (xs : List (Block T)) (i : ℕ) (y : Block T) → P y → AllByRecursion P xs → AllByRecursion P (insert xs i y)
  each_insert P xs i y p h = each_join P (take i xs) (y ∷ drop i xs) (each_take P i xs h) (p, each_drop P i xs h)

  flat_set : (xs : List (Block T)) (i : ℕ) (y : Block T) → i < length xs → flat_map items_of (set xs i y) ≡ flat_map items_of (take i xs) ++ (items_of y ++ flat_map items_of (drop (suc i) xs))
  flat_set xs i y lt = ap (flat_map items_of) (set_split xs i y lt) ∙ flat_map-append items_of (take i xs) (y ∷ drop (suc i) xs)

  inner : (a t d c : List T) (x : T) → a ++ ((t ++ x ∷ d) ++ c) ≡ (a ++ t) ++ (x ∷ (d ++ c))
  inner a t d c x = simp append_assoc

  -- a member more at a place
  pub flat_put : (xs : List (Block T)) (b : Block T) (i j : ℕ) (x : T) → i < length xs → items_of b ≡ insert (row items_of (slice_get xs i)) j x → flat_map items_of (set xs i b) ≡ before items_of xs i j ++ (x ∷ after items_of xs i j)
  flat_put xs b i j x lt e =
      flat_set xs i b lt ∙ ap (λ l. flat_map items_of (take i xs) ++ (l ++ flat_map items_of (drop (suc i) xs))) e
      ∙ inner (flat_map items_of (take i xs)) (take j (row items_of (slice_get xs i))) (drop j (row items_of (slice_get xs i))) (flat_map items_of (drop (suc i) xs)) x

  cut_two : (a c : List T) (r s : List T) → a ++ (r ++ (s ++ c)) ≡ a ++ ((r ++ s) ++ c)
  cut_two a c r s = simp append_assoc

  long_take : (i : ℕ) (xs : List (Block T)) → i ≤ length xs → length (take i xs) ≡ i
  long_take i xs le = length-take-le i xs le

  -- a block in two
  pub flat_split : (xs : List (Block T)) (i n : ℕ) (y z : Block T) → i < length xs → items_of y ≡ take n (row items_of (slice_get xs i)) → items_of z ≡ drop n (row items_of (slice_get xs i))
      → flat_map items_of (insert (set xs i y) (i + 1) z) ≡ flat_map items_of xs
  flat_split xs i n y z lt e f =
      let one : i + 1 ≡ suc i = omega arith in
      let long : length (take i xs) ≡ i = long_take i xs (omega arith) in
      let left : take (i + 1) (take i xs ++ (y ∷ drop (suc i) xs)) ≡ take i xs ++ (y ∷ []) = ap (λ m. take m (take i xs ++ (y ∷ drop (suc i) xs))) (omega arith) ∙ take-append-add (take i xs) (y ∷ drop (suc i) xs) 1 in
      let right : drop (i + 1) (take i xs ++ (y ∷ drop (suc i) xs)) ≡ drop (suc i) xs = ap (λ m. drop m (take i xs ++ (y ∷ drop (suc i) xs))) (omega arith) ∙ drop-append-add (take i xs) (y ∷ drop (suc i) xs) 1 in
      ap (λ l. flat_map items_of (insert l (i + 1) z)) (set_split xs i y lt)
      ∙ ap₂ (λ l r. flat_map items_of (l ++ (z ∷ r))) left right
      ∙ ap (flat_map items_of) (append_assoc (take i xs) (y ∷ []) (z ∷ drop (suc i) xs))
      ∙ flat_map-append items_of (take i xs) (y ∷ z ∷ drop (suc i) xs)
      ∙ cut_two (flat_map items_of (take i xs)) (flat_map items_of (drop (suc i) xs)) (items_of y) (items_of z)
      ∙ ap₂ (λ r s. flat_map items_of (take i xs) ++ ((r ++ s) ++ flat_map items_of (drop (suc i) xs))) e f
      ∙ ap (λ l. flat_map items_of (take i xs) ++ (l ++ flat_map items_of (drop (suc i) xs))) (take-append-drop n (row items_of (slice_get xs i)))
      ∙ sym (whole_at items_of xs i lt)

  outer : (a t d c : List T) → a ++ ((t ++ d) ++ c) ≡ (a ++ t) ++ (d ++ c)
  outer a t d c = simp append_assoc

  drop_next : (j : ℕ) (ys zs : List T) → j < length ys → drop (suc j) ys ++ zs ≡ drop 1 (drop j ys ++ zs)
  drop_next j [] zs lt = absurd (omega arith)
  drop_next zero (y ∷ ys) zs lt = refl
  drop_next (suc j) (y ∷ ys) zs lt = drop_next j ys zs (omega arith)

  -- a member less
  pub flat_out : (xs : List (Block T)) (b : Block T) (i j : ℕ) → i < length xs → j < length (row items_of (slice_get xs i)) → items_of b ≡ remove (row items_of (slice_get xs i)) j → flat_map items_of (set xs i b) ≡ before items_of xs i j ++ drop 1 (after items_of xs i j)
  flat_out xs b i j lt less e =
      flat_set xs i b lt ∙ ap (λ l. flat_map items_of (take i xs) ++ (l ++ flat_map items_of (drop (suc i) xs))) e
      ∙ outer (flat_map items_of (take i xs)) (take j (row items_of (slice_get xs i))) (drop (suc j) (row items_of (slice_get xs i))) (flat_map items_of (drop (suc i) xs))
      ∙ ap (λ l. before items_of xs i j ++ l) (drop_next j (row items_of (slice_get xs i)) (flat_map items_of (drop (suc i) xs)) less)

  -- an empty block leaves
  pub flat_remove : (xs : List (Block T)) (i : ℕ) → i < length xs → row items_of (slice_get xs i) ≡ [] → flat_map items_of (remove xs i) ≡ flat_map items_of xs
  flat_remove xs i lt e = flat_map-append items_of (take i xs) (drop (suc i) xs) ∙ ap (λ l. flat_map items_of (take i xs) ++ (l ++ flat_map items_of (drop (suc i) xs))) (sym e) ∙ sym (whole_at items_of xs i lt)

  pub wide_set : (xs : List (Block T)) (i : ℕ) (b : Block T) → i < length xs → AllByRecursion IsFilled xs → 0 < length (items_of b) → length (items_of b) ≤ 65 → 65 ≤ vec_capacity b.items → IsWide (set xs i b) i
  wide_set xs i b lt h some few roomy = record {
    earlier = subst (AllByRecursion IsFilled) (sym (take-set xs i b)) (each_take IsFilled i xs h);
    later = subst (AllByRecursion IsFilled) (sym (drop-set-lt (suc i) xs i b (omega arith))) (each_drop IsFilled (suc i) xs h);
    block = b;
    here = slice_get-get_or (set xs i b) i b (omega (arith, length-set xs i b)) ∙ ap Some (get_or-set_same xs i b b lt);
    some = some;
    few = few;
    roomy = roomy;
  }

  by_parts : (xs : List (Block T)) (i : ℕ) (b : Block T) → slice_get xs i ≡ Some b → xs ≡ take i xs ++ (b ∷ drop (suc i) xs)
  by_parts [] i b e = absurd (cc)
  by_parts (x ∷ xs) zero b e = let f : x ≡ b = cc in ap (λ y. y ∷ xs) f
  by_parts (x ∷ xs) (suc i) b e = ap (λ l. x ∷ l) (by_parts xs i b e)

  pub wide_filled : (xs : List (Block T)) (i : ℕ) → (w : IsWide xs i) → length (items_of w.block) ≤ 64 → AllByRecursion IsFilled xs
  wide_filled xs i w few = subst (AllByRecursion IsFilled) (sym (by_parts xs i w.block w.here)) (each_join IsFilled (take i xs) (w.block ∷ drop (suc i) xs) w.earlier (record { some = w.some; few = few; roomy = w.roomy }, w.later))

  pub split_filled : (xs : List (Block T)) (i : ℕ) (y z : Block T) → i < length xs → IsWide xs i → IsFilled y → IsFilled z → AllByRecursion IsFilled (insert (set xs i y) (i + 1) z)
  split_filled xs i y z lt w p q =
      let one : i + 1 ≡ suc i = omega arith in
      let all : AllByRecursion IsFilled (set xs i y) = subst (AllByRecursion IsFilled) (sym (set_split xs i y lt)) (each_join IsFilled (take i xs) (y ∷ drop (suc i) xs) w.earlier (p, w.later)) in
      each_insert IsFilled (set xs i y) (i + 1) z q all

  pub wide_few : (xs : List (Block T)) (i : ℕ) (d : Block T) → i < length xs → (w : IsWide xs i) → length (items_of (get_or xs i d)) ≡ length (items_of w.block)
  wide_few xs i d lt w = let e : Some (get_or xs i d) ≡ Some w.block = sym (slice_get-get_or xs i d lt) ∙ w.here in let f : get_or xs i d ≡ w.block = cc in ap (λ b. length (items_of b)) f

  pub wide_is : (xs : List (Block T)) (i : ℕ) (d : Block T) → i < length xs → (w : IsWide xs i) → d ≡ get_or xs i d → d ≡ w.block
  wide_is xs i d lt w is = let e : Some (get_or xs i d) ≡ Some w.block = sym (slice_get-get_or xs i d lt) ∙ w.here in let f : get_or xs i d ≡ w.block = cc in is ∙ f

  pub last_idle : (xs ys : List (Block T)) (b : Block T) → xs ≡ ys ++ (b ∷ []) → AllByRecursion IsIdle xs → IsIdle b
  last_idle xs ys b e h = (each_parts IsIdle ys (b ∷ []) (subst (AllByRecursion IsIdle) e h)).1.0

  pub row_set : (xs : List (Block T)) (i : ℕ) (b : Block T) → i < length xs → row items_of (slice_get (set xs i b) i) ≡ items_of b
  row_set xs i b lt = ap (row items_of) (slice_get-get_or (set xs i b) i b (omega (arith, length-set xs i b)) ∙ ap Some (get_or-set_same xs i b b lt))
