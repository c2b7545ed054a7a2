-- How blocks are laid out, and how they stay so.
use Rattle.std.proofs.Common.{arith, ◌≡◌, ℕ, zero, suc, ◌+◌, ◌-◌, ◌<◌, ◌≤◌, get_or, length, take, set, List, [], ◌∷◌, ◌++◌, Some, refl, sym, ◌∙◌, ap, subst, length-append, append-nil}
use Rattle.std.specs.Prelude.{flat_map, slice_get, Vec}
use Rattle.std.specs.List.{AllByRecursion, insert, remove}
use Rattle.std.proofs.lemmas.List.{length-take-le, length-drop, length-set}
use Rattle.std.proofs.lemmas.List.Edits.{length-insert, length-remove}
use Rattle.std.proofs.lemmas.Grind.{flat_map-append}
use Rattle.fib_base_ordered.specs.inner.Blocks.{row}
use Rattle.fib_base_ordered.proofs.Cuts.{each_get}
use Rattle.fib_base_ordered.proofs.Rows.{row_get}
use Rattle.fib_base_blocks.specs.inner.Layout.{AreBlocks, IsFilled, IsPlace, IsSlot, IsSplit, items_of, lowered, raised, starts_from}
use Rattle.fib_base_blocks.proofs.Starts.{starts_long, start_at, starts_same, starts_more, starts_less, starts_split, starts_gone, starts_high}
use Rattle.fib_base_blocks.proofs.Edits.{slot_of}

module _ {X : Type 0} where
  each_set : (P : X → Type 0) (xs : List X) (i : ℕ) (y : X) → P y → AllByRecursion P xs → AllByRecursion P (set xs i y)
  each_set P [] i y p h = tt
  each_set P (x ∷ xs) zero y p h = (p, h.1)
  each_set P (x ∷ xs) (suc i) y p h = (h.0, each_set P xs i y p h.1)

  each_two : (P : X → Type 0) (xs : List X) (i : ℕ) (y z : X) → P y → P z → i < length xs → AllByRecursion P xs → AllByRecursion P (insert (set xs i y) (suc i) z)
  each_two P [] i y z p q lt h = absurd (omega arith)
  each_two P (x ∷ xs) zero y z p q lt h = (p, (q, h.1))
  each_two P (x ∷ xs) (suc i) y z p q lt h = (h.0, each_two P xs i y z p q (omega arith) h.1)

  each_gone : (P : X → Type 0) (xs : List X) (i : ℕ) (y : X) → AllByRecursion P xs → AllByRecursion P (remove (set xs i y) i)
  each_gone P [] zero y h = tt
  each_gone P [] (suc i) y h = tt
  each_gone P (x ∷ xs) zero y h = h.1
  each_gone P (x ∷ xs) (suc i) y h = (h.0, each_gone P xs i y h.1)

  -- where two stand in place of one
  two_low : (xs : List X) (i : ℕ) (y z : X) → i < length xs → slice_get (insert (set xs i y) (suc i) z) i ≡ Some y
  two_low [] i y z lt = absurd (omega arith)
  two_low (x ∷ xs) zero y z lt = refl
  two_low (x ∷ xs) (suc i) y z lt = two_low xs i y z (omega arith)

  two_high : (xs : List X) (i : ℕ) (y z : X) → i < length xs → slice_get (insert (set xs i y) (suc i) z) (suc i) ≡ Some z
  two_high [] i y z lt = absurd (omega arith)
  two_high (x ∷ xs) zero y z lt = refl
  two_high (x ∷ xs) (suc i) y z lt = two_high xs i y z (omega arith)

  before_low : (xs : List X) (i : ℕ) (y z : X) → i < length xs → take i (insert (set xs i y) (suc i) z) ≡ take i xs
  before_low [] i y z lt = absurd (omega arith)
  before_low (x ∷ xs) zero y z lt = refl
  before_low (x ∷ xs) (suc i) y z lt = ap (λ l. x ∷ l) (before_low xs i y z (omega arith))

  before_high : (xs : List X) (i : ℕ) (y z : X) → i < length xs → take (suc i) (insert (set xs i y) (suc i) z) ≡ take i xs ++ (y ∷ [])
  before_high [] i y z lt = absurd (omega arith)
  before_high (x ∷ xs) zero y z lt = refl
  before_high (x ∷ xs) (suc i) y z lt = ap (λ l. x ∷ l) (before_high xs i y z (omega arith))

  two_long : (xs : List X) (i : ℕ) (y z : X) → i < length xs → length (insert (set xs i y) (suc i) z) ≡ suc (length xs)
  two_long [] i y z lt = absurd (omega arith)
  two_long (x ∷ xs) zero y z lt = refl
  two_long (x ∷ xs) (suc i) y z lt = ap suc (two_long xs i y z (omega arith))

module _ {T Z : Type 0} where
  pub laid_long : (bs : List (Vec T Z)) (ns : List ℕ) → AreBlocks bs ns → length ns ≡ length bs
  laid_long bs ns laid = ap length laid.starts ∙ starts_long items_of 0 bs

  pub laid_start : (bs : List (Vec T Z)) (ns : List ℕ) (i d : ℕ) → AreBlocks bs ns → i < length bs → get_or ns i d ≡ length (flat_map items_of (take i bs))
  laid_start bs ns i d laid lt = ap (λ l. get_or l i d) laid.starts ∙ (start_at items_of 0 bs i d lt ∙ omega arith)

  pub laid_high : (bs : List (Vec T Z)) (ns : List ℕ) (i k d : ℕ) → AreBlocks bs ns → i < k → k < length ns → 0 < length (row items_of (slice_get bs i)) → 0 < get_or ns k d
  laid_high bs ns i k d laid lt less some =
      let h = starts_high items_of 0 bs i k d lt (omega (arith, laid_long bs ns laid)) some in
      omega (arith, h, ap (λ (l : List ℕ). get_or l k d) laid.starts)

  -- what a search of the starts finds
  pub found : (bs : List (Vec T Z)) (ns : List ℕ) (n i : ℕ) → AreBlocks bs ns → n ≤ length (flat_map items_of bs) → i < length bs → get_or ns i 0 ≤ n → (i + 1 < length bs → n < get_or ns (i + 1) 0) → IsPlace bs n i (n - get_or ns i 0)
  found bs ns n i laid le lt low high =
      let s = laid_start bs ns i 0 laid lt in
      let at : length (flat_map items_of (take i bs)) + (n - get_or ns i 0) ≡ n = omega (arith, s, low) in
      let is = slot_of items_of bs i (n - get_or ns i 0) n lt le at (λ more. omega (arith, high more, laid_start bs ns (i + 1) 0 laid more)) in
      record { inside = lt; place = at; slot = is.0; within = is.1 }

  -- the block that is read at a place
  pub row_is : (bs : List (Vec T Z)) (i : ℕ) (b : Vec T Z) → i < length bs → b ≡ get_or bs i b → row items_of (slice_get bs i) ≡ b.items
  row_is bs i b lt is = row_get items_of bs i b lt ∙ ap items_of (sym is)

  pub row_set : (bs : List (Vec T Z)) (i : ℕ) (b : Vec T Z) → i < length bs → row items_of (slice_get (set bs i b) i) ≡ b.items
  row_set [] i b lt = absurd (omega arith)
  row_set (x ∷ xs) zero b lt = refl
  row_set (x ∷ xs) (suc i) b lt = row_set xs i b (omega arith)

  pub filled_at : (bs : List (Vec T Z)) (ns : List ℕ) (i : ℕ) (b : Vec T Z) → AreBlocks bs ns → i < length bs → b ≡ get_or bs i b → IsFilled b
  filled_at bs ns i b laid lt is = subst IsFilled (sym is) (each_get IsFilled bs i b lt laid.filled)

  row_filled : (bs : List (Vec T Z)) (i : ℕ) → i < length bs → AllByRecursion IsFilled bs → 0 < length (row items_of (slice_get bs i))
  row_filled [] i lt h = absurd (omega arith)
  row_filled (b ∷ bs) zero lt h = h.0
  row_filled (b ∷ bs) (suc i) lt h = row_filled bs i (omega arith) h.1

  module _ (bs : List (Vec T Z)) (ns : List ℕ) (i : ℕ) (laid : AreBlocks bs ns) (lt : i < length bs) where
    -- the block has other memory
    pub same_laid : (b : Vec T Z) → b.items ≡ row items_of (slice_get bs i) → IsFilled b → AreBlocks (set bs i b) ns
    same_laid b e f = record { starts = laid.starts ∙ sym (starts_same items_of 0 bs i b lt (ap length e)); filled = each_set IsFilled bs i b f laid.filled }

    -- it has another element
    pub set_laid : (b : Vec T Z) (j : ℕ) (x : T) → b.items ≡ set (row items_of (slice_get bs i)) j x → AreBlocks (set bs i b) ns
    set_laid b j x e =
        let long : length b.items ≡ length (row items_of (slice_get bs i)) = ap length e ∙ length-set (row items_of (slice_get bs i)) j x in
        let was = row_filled bs i lt laid.filled in
        record { starts = laid.starts ∙ sym (starts_same items_of 0 bs i b lt long); filled = each_set IsFilled bs i b (omega (arith, long, was)) laid.filled }

    -- it has an element more
    pub more_laid : (b : Vec T Z) (j : ℕ) (x : T) → b.items ≡ insert (row items_of (slice_get bs i)) j x → j ≤ length (row items_of (slice_get bs i)) → AreBlocks (set bs i b) (raised (i + 1) ns)
    more_laid b j x e le =
        let long : length b.items ≡ length (row items_of (slice_get bs i)) + 1 = ap length e ∙ length-insert (row items_of (slice_get bs i)) j x le in
        record { starts = starts_more items_of bs ns i b laid.starts lt long; filled = each_set IsFilled bs i b (omega arith) laid.filled }

    -- or one less
    less_long : (b : Vec T Z) (j : ℕ) → b.items ≡ remove (row items_of (slice_get bs i)) j → j < length (row items_of (slice_get bs i)) → length b.items + 1 ≡ length (row items_of (slice_get bs i))
    less_long b j e less = ap (λ (l : List T). length l + 1) e ∙ length-remove (row items_of (slice_get bs i)) j less

    pub less_laid : (b : Vec T Z) (j : ℕ) → b.items ≡ remove (row items_of (slice_get bs i)) j → j < length (row items_of (slice_get bs i)) → 0 < length b.items → AreBlocks (set bs i b) (lowered (i + 1) ns)
    less_laid b j e less some =
        let long = less_long b j e less in
        record { starts = starts_less items_of bs ns i b laid.starts lt long; filled = each_set IsFilled bs i b some laid.filled }

    -- and goes where it is empty then
    pub gone_laid : (b : Vec T Z) (j : ℕ) → b.items ≡ remove (row items_of (slice_get bs i)) j → j < length (row items_of (slice_get bs i)) → row items_of (slice_get (set bs i b) i) ≡ [] → AreBlocks (remove (set bs i b) i) (remove (lowered (i + 1) ns) i)
    gone_laid b j e less none = record {
      starts = starts_gone items_of (set bs i b) (lowered (i + 1) ns) i (starts_less items_of bs ns i b laid.starts lt (less_long b j e less)) (omega (arith, lt, length-set bs i b)) none;
      filled = each_gone IsFilled bs i b laid.filled;
    }

    module _ (new : List (Vec T Z)) (s : IsSplit bs new i) (long : 128 < length (row items_of (slice_get bs i))) where
      one : i + 1 ≡ suc i
      one = omega arith

      is : new ≡ insert (set bs i s.low) (suc i) s.high
      is = s.whole ∙ ap (λ k. insert (set bs i s.low) k s.high) one

      low_long : length s.low.items ≡ 128
      low_long = ap length s.first ∙ length-take-le 128 (row items_of (slice_get bs i)) (omega arith)

      high_long : length s.high.items ≡ length (row items_of (slice_get bs i)) - 128
      high_long = ap length s.rest ∙ length-drop 128 (row items_of (slice_get bs i))

      pub split_laid : (d : ℕ) → AreBlocks new (insert ns (i + 1) (get_or ns i d + 128))
      split_laid d = record {
        starts = starts_split items_of bs ns i d 128 s.low s.high laid.starts lt low_long (omega (arith, high_long)) ∙ ap (starts_from items_of 0) (sym s.whole);
        filled = subst (AllByRecursion IsFilled) (sym is)
            (each_two IsFilled bs i s.low s.high (omega (arith, low_long)) (omega (arith, high_long)) lt laid.filled);
      }

      -- a place in the block is in one of the two
      pub roomy_low : (n j : ℕ) → length (flat_map items_of (take i bs)) + j ≡ n → j ≤ 128 → IsSlot new n i j
      roomy_low n j at le =
          let e : row items_of (slice_get new i) ≡ s.low.items = ap (λ (l : List (Vec T Z)). row items_of (slice_get l i)) is ∙ ap (row items_of) (two_low bs i s.low s.high lt) in
          let l = ap length e ∙ low_long in
          let n = ap length is ∙ two_long bs i s.low s.high lt in
          let b = ap (λ (l : List (Vec T Z)). length (flat_map items_of (take i l))) is ∙ ap (λ (l : List (Vec T Z)). length (flat_map items_of l)) (before_low bs i s.low s.high lt) in
          record { inside = omega (arith, n); place = ap (λ (k : ℕ). k + j) b ∙ at; slot = omega (arith, l) }

      pub roomy_high : (n j : ℕ) → length (flat_map items_of (take i bs)) + j ≡ n → j ≤ length (row items_of (slice_get bs i)) → 128 < j → IsSlot new n (i + 1) (j - 128)
      roomy_high n j at le more =
          let e : row items_of (slice_get new (i + 1)) ≡ s.high.items = ap (λ k. row items_of (slice_get new k)) one ∙ (ap (λ (l : List (Vec T Z)). row items_of (slice_get l (suc i))) is ∙ ap (row items_of) (two_high bs i s.low s.high lt)) in
          let l = ap length e ∙ high_long in
          let m = ap length is ∙ two_long bs i s.low s.high lt in
          let a : flat_map items_of (take (i + 1) new) ≡ flat_map items_of (take i bs) ++ s.low.items = ap (λ k. flat_map items_of (take k new)) one ∙ (ap (λ (l : List (Vec T Z)). flat_map items_of (take (suc i) l)) is
          ∙ (ap (flat_map items_of) (before_high bs i s.low s.high lt) ∙ (flat_map-append items_of (take i bs) (s.low ∷ []) ∙ ap (λ l. flat_map items_of (take i bs) ++ l) (append-nil s.low.items)))) in
          let b = ap length a ∙ length-append (flat_map items_of (take i bs)) s.low.items in
          record { inside = omega (arith, m); place = omega (arith, b, low_long, at); slot = omega (arith, l) }
