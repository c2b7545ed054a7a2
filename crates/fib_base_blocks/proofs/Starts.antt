-- The places at which blocks start, and how they change.
use Rattle.std.proofs.Common.{arith, ◌≡◌, ℕ, zero, suc, ◌+◌, ◌-◌, ◌<◌, ◌≤◌, get_or, length, take, set, List, [], ◌∷◌, refl, sym, ◌∙◌, ap, ap₂, length-append}
use Rattle.std.specs.Prelude.{flat_map, slice_get}
use Rattle.std.specs.List.{AllByRecursion, insert, remove}
use Rattle.fib_base_ordered.specs.inner.Blocks.{row}
use Rattle.fib_base_blocks.specs.inner.Layout.{starts_from, changed, raised, lowered}

module _ (f : ℕ → ℕ) where
  pub changed_none : (from : ℕ) (ns : List ℕ) → changed f from from ns ≡ ns
  changed_none from [] = refl
  changed_none zero (n ∷ ns) = refl
  changed_none (suc from) (n ∷ ns) = ap (λ l. n ∷ l) (changed_none from ns)

  pub changed_long : (from to : ℕ) (ns : List ℕ) → length (changed f from to ns) ≡ length ns
  changed_long from to [] = refl
  changed_long zero zero (n ∷ ns) = refl
  changed_long zero (suc to) (n ∷ ns) = ap suc (changed_long zero to ns)
  changed_long (suc from) zero (n ∷ ns) = refl
  changed_long (suc from) (suc to) (n ∷ ns) = ap suc (changed_long from to ns)

  pub changed_same : (from to : ℕ) (ns : List ℕ) (k d : ℕ) → to ≤ k → get_or (changed f from to ns) k d ≡ get_or ns k d
  changed_same from to [] k d le = refl
  changed_same zero zero (n ∷ ns) k d le = refl
  changed_same zero (suc to) (n ∷ ns) zero d le = absurd (omega arith)
  changed_same zero (suc to) (n ∷ ns) (suc k) d le = changed_same zero to ns k d (omega arith)
  changed_same (suc from) zero (n ∷ ns) k d le = refl
  changed_same (suc from) (suc to) (n ∷ ns) zero d le = absurd (omega arith)
  changed_same (suc from) (suc to) (n ∷ ns) (suc k) d le = changed_same from to ns k d (omega arith)

  more : (from to : ℕ) (ns : List ℕ) (x : ℕ) → from ≤ to → to < length ns → x ≡ get_or ns to x → set (changed f from to ns) to (f x) ≡ changed f from (suc to) ns
  more from to [] x le lt e = absurd (omega arith)
  more zero zero (n ∷ []) x le lt e = ap (λ m. f m ∷ []) e
  more zero zero (n ∷ m ∷ ns) x le lt e = ap (λ k. f k ∷ m ∷ ns) e
  more zero (suc to) (n ∷ ns) x le lt e = ap (λ l. f n ∷ l) (more zero to ns x (omega arith) (omega arith) e)
  more (suc from) zero (n ∷ ns) x le lt e = absurd (omega arith)
  more (suc from) (suc to) (n ∷ ns) x le lt e = ap (λ l. n ∷ l) (more from to ns x (omega arith) (omega arith) e)

  -- one more of them is changed
  pub changed_more : (from to : ℕ) (ns ms : List ℕ) (x : ℕ) → ms ≡ changed f from to ns → from ≤ to → to < length ms → x ≡ get_or ms to x → set ms to (f x) ≡ changed f from (to + 1) ns
  changed_more from to ns ms x is le lt e =
      let long : length ms ≡ length ns = ap length is ∙ changed_long from to ns in
      let same : x ≡ get_or ns to x = e ∙ (ap (λ l. get_or l to x) is ∙ changed_same from to ns to x (omega arith)) in
      let one : suc to ≡ to + 1 = omega arith in
      ap (λ l. set l to (f x)) is ∙ (more from to ns x le (omega arith) same ∙ ap (λ n. changed f from n ns) one)

pub each_low : (most : ℕ) (ns : List ℕ) (k d : ℕ) → k < length ns → AllByRecursion (λ n. n < most) ns → get_or ns k d < most
each_low most [] k d lt h = absurd (omega arith)
each_low most (n ∷ ns) zero d lt h = h.0
each_low most (n ∷ ns) (suc k) d lt h = each_low most ns k d (omega arith) h.1

module _ {X T : Type 0} (items : X → List T) where
  pub starts_long : (n : ℕ) (xs : List X) → length (starts_from items n xs) ≡ length xs
  starts_long n [] = refl
  starts_long n (x ∷ xs) = ap suc (starts_long (n + length (items x)) xs)

  -- a block starts where those before it end
  pub start_at : (n : ℕ) (xs : List X) (i d : ℕ) → i < length xs → get_or (starts_from items n xs) i d ≡ n + length (flat_map items (take i xs))
  start_at n [] i d lt = absurd (omega arith)
  start_at n (x ∷ xs) zero d lt = omega arith
  start_at n (x ∷ xs) (suc i) d lt = omega (arith, start_at (n + length (items x)) xs i d (omega arith), length-append (items x) (flat_map items (take i xs)))

  -- no start is past the end
  pub starts_low : (n most : ℕ) (xs : List X) → n + length (flat_map items xs) < most → AllByRecursion (λ s. s < most) (starts_from items n xs)
  starts_low n most [] lt = tt
  starts_low n most (x ∷ xs) lt = let e = length-append (items x) (flat_map items xs) in (omega arith, starts_low (n + length (items x)) most xs (omega (arith, e)))

  least : (n : ℕ) (xs : List X) (k d : ℕ) → k < length xs → n ≤ get_or (starts_from items n xs) k d
  least n [] k d lt = absurd (omega arith)
  least n (x ∷ xs) zero d lt = omega arith
  least n (x ∷ xs) (suc k) d lt = omega (arith, least (n + length (items x)) xs k d (omega arith))

  -- what stands behind a block with elements doesn't start where the first one does
  pub starts_high : (n : ℕ) (xs : List X) (i k d : ℕ) → i < k → k < length xs → 0 < length (row items (slice_get xs i)) → n < get_or (starts_from items n xs) k d
  starts_high n [] i k d lt less some = absurd (omega arith)
  starts_high n (x ∷ xs) i zero d lt less some = absurd (omega arith)
  starts_high n (x ∷ xs) zero (suc k) d lt less some = omega (arith, least (n + length (items x)) xs k d (omega arith))
  starts_high n (x ∷ xs) (suc i) (suc k) d lt less some = omega (arith, starts_high (n + length (items x)) xs i k d (omega arith) (omega arith) some)

  later : (n m : ℕ) (xs : List X) (k : ℕ) → m ≡ n + 1 → length xs ≤ k → starts_from items m xs ≡ changed (λ l. l + 1) zero k (starts_from items n xs)
  later n m [] k e le = refl
  later n m (x ∷ xs) zero e le = absurd (omega arith)
  later n m (x ∷ xs) (suc k) e le = ap₂ (λ a l. a ∷ l) e (later (n + length (items x)) (m + length (items x)) xs k (omega arith) (omega arith))

  earlier : (n m : ℕ) (xs : List X) (k : ℕ) → m ≡ n + 1 → length xs ≤ k → starts_from items n xs ≡ changed (λ l. l - 1) zero k (starts_from items m xs)
  earlier n m [] k e le = refl
  earlier n m (x ∷ xs) zero e le = absurd (omega arith)
  earlier n m (x ∷ xs) (suc k) e le = let f : n ≡ m - 1 = omega arith in ap₂ (λ a l. a ∷ l) f (earlier (n + length (items x)) (m + length (items x)) xs k (omega arith) (omega arith))

  -- a block that changes and stays as long
  pub starts_same : (n : ℕ) (xs : List X) (i : ℕ) (y : X) → i < length xs → length (items y) ≡ length (row items (slice_get xs i)) → starts_from items n (set xs i y) ≡ starts_from items n xs
  starts_same n [] i y lt e = absurd (omega arith)
  starts_same n (x ∷ xs) zero y lt e = ap (λ m. n ∷ starts_from items (n + m) xs) e
  starts_same n (x ∷ xs) (suc i) y lt e = ap (λ l. n ∷ l) (starts_same (n + length (items x)) xs i y (omega arith) e)

  more_by : (n : ℕ) (xs : List X) (i k : ℕ) (y : X) → i < length xs → length xs ≤ k → length (items y) ≡ length (row items (slice_get xs i)) + 1 → starts_from items n (set xs i y) ≡ changed (λ l. l + 1) (suc i) k (starts_from items n xs)
  more_by n [] i k y lt le e = absurd (omega arith)
  more_by n (x ∷ xs) i zero y lt le e = absurd (omega arith)
  more_by n (x ∷ xs) zero (suc k) y lt le e = ap (λ l. n ∷ l) (later (n + length (items x)) (n + length (items y)) xs k (omega arith) (omega arith))
  more_by n (x ∷ xs) (suc i) (suc k) y lt le e = ap (λ l. n ∷ l) (more_by (n + length (items x)) xs i k y (omega arith) (omega arith) e)

  less_by : (n : ℕ) (xs : List X) (i k : ℕ) (y : X) → i < length xs → length xs ≤ k → length (items y) + 1 ≡ length (row items (slice_get xs i)) → starts_from items n (set xs i y) ≡ changed (λ l. l - 1) (suc i) k (starts_from items n xs)
  less_by n [] i k y lt le e = absurd (omega arith)
  less_by n (x ∷ xs) i zero y lt le e = absurd (omega arith)
  less_by n (x ∷ xs) zero (suc k) y lt le e = ap (λ l. n ∷ l) (earlier (n + length (items y)) (n + length (items x)) xs k (omega arith) (omega arith))
  less_by n (x ∷ xs) (suc i) (suc k) y lt le e = ap (λ l. n ∷ l) (less_by (n + length (items x)) xs i k y (omega arith) (omega arith) e)

  -- an element more in a block, or one less, moves the starts behind it
  pub starts_more : (xs : List X) (ns : List ℕ) (i : ℕ) (y : X) → ns ≡ starts_from items 0 xs → i < length xs → length (items y) ≡ length (row items (slice_get xs i)) + 1 → raised (i + 1) ns ≡ starts_from items 0 (set xs i y)
  starts_more xs ns i y is lt e =
      let one : i + 1 ≡ suc i = omega arith in
      ap₂ (λ m l. raised m l) one is ∙ sym (more_by 0 xs i (length (starts_from items 0 xs)) y lt (omega (arith, starts_long 0 xs)) e)

  pub starts_less : (xs : List X) (ns : List ℕ) (i : ℕ) (y : X) → ns ≡ starts_from items 0 xs → i < length xs → length (items y) + 1 ≡ length (row items (slice_get xs i)) → lowered (i + 1) ns ≡ starts_from items 0 (set xs i y)
  starts_less xs ns i y is lt e =
      let one : i + 1 ≡ suc i = omega arith in
      ap₂ (λ m l. lowered m l) one is ∙ sym (less_by 0 xs i (length (starts_from items 0 xs)) y lt (omega (arith, starts_long 0 xs)) e)

  two : (n : ℕ) (xs : List X) (i d : ℕ) (y z : X) → i < length xs → length (items y) + length (items z) ≡ length (row items (slice_get xs i)) → starts_from items n (insert (set xs i y) (suc i) z) ≡ insert (starts_from items n xs) (suc i) (get_or (starts_from items n xs) i d + length (items y))
  two n [] i d y z lt e = absurd (omega arith)
  two n (x ∷ xs) zero d y z lt e = let f : n + length (items y) + length (items z) ≡ n + length (items x) = omega arith in ap (λ m. n ∷ (n + length (items y)) ∷ starts_from items m xs) f
  two n (x ∷ xs) (suc i) d y z lt e = ap (λ l. n ∷ l) (two (n + length (items x)) xs i d y z (omega arith) e)

  -- a block in two
  pub starts_split : (xs : List X) (ns : List ℕ) (i d m : ℕ) (y z : X) → ns ≡ starts_from items 0 xs → i < length xs → length (items y) ≡ m → m + length (items z) ≡ length (row items (slice_get xs i)) → insert ns (i + 1) (get_or ns i d + m) ≡ starts_from items 0 (insert (set xs i y) (i + 1) z)
  starts_split xs ns i d m y z is lt low e =
      let one : i + 1 ≡ suc i = omega arith in
      rw (one, is, ← low) (sym (two 0 xs i d y z lt (omega arith)))

  gone : (n : ℕ) (xs : List X) (i : ℕ) → i < length xs → row items (slice_get xs i) ≡ [] → starts_from items n (remove xs i) ≡ remove (starts_from items n xs) i
  gone n [] i lt e = absurd (omega arith)
  gone n (x ∷ xs) zero lt e = let f : n ≡ n + length (items x) = omega (arith, ap length e) in ap (λ m. starts_from items m xs) f
  gone n (x ∷ xs) (suc i) lt e = ap (λ l. n ∷ l) (gone (n + length (items x)) xs i (omega arith) e)

  -- an empty block goes
  pub starts_gone : (xs : List X) (ns : List ℕ) (i : ℕ) → ns ≡ starts_from items 0 xs → i < length xs → row items (slice_get xs i) ≡ [] → remove ns i ≡ starts_from items 0 (remove xs i)
  starts_gone xs ns i is lt e = ap (λ l. remove l i) is ∙ sym (gone 0 xs i lt e)
