-- What a search of the blocks, and then of one of them, says of the list.
use Rattle.std.proofs.Common.{arith, ◌≡◌, ℕ, suc, ◌+◌, ◌-◌, ◌<◌, ◌≤◌, true, false, get_or, length, take, List, inl, inr, refl, sym, ◌∙◌, ap, subst}
use Rattle.std.specs.Prelude.{flat_map, slice_get, Vec}
use Rattle.std.specs.List.{AllByRecursion, AllWithin}
use Rattle.std.specs.List.Sorted.{IsNonDecreasingBy, IsPartitionPoint}
use Rattle.std.specs.Ordering.{is_gt, ordering_index}
use Rattle.std.specs.declared.cmp.Ordering.{Ordering}
use Rattle.std.specs.declared.cmp.Ordering.TheVariants.{Less, Equal, Greater}
use Rattle.std.proofs.lemmas.List.{drop_all}
use Rattle.std.proofs.lemmas.Bool.{cases_lt}
use Rattle.std.proofs.lemmas.List.Concat.{get_or-flat_map}
use Rattle.fib_base_ordered.specs.inner.Blocks.{row}
use Rattle.fib_base_ordered.proofs.Cuts.{each_get}
use Rattle.fib_base_ordered.proofs.Rows.{row_get}
use Rattle.fib_base_blocks.specs.inner.Layout.{IsFilled, StartsPast, StartsWithin, items_of}
use Rattle.fib_base_blocks.proofs.Edits.{list_get, take_long, whole_long}
use Rattle.fib_base_blocks.proofs.Laid.{row_is}

past : (o : Ordering) → is_gt o ≡ true → o ≡ Greater
past Less e = absurd (cc)
past Equal e = absurd (cc)
past Greater e = refl

least : (o : Ordering) → ordering_index o ≤ ordering_index Less → o ≡ Less
least Less le = refl
least Equal le = absurd (omega arith)
least Greater le = absurd (omega arith)

most : (o : Ordering) → ordering_index Greater ≤ ordering_index o → o ≡ Greater
most Less le = absurd (omega arith)
most Equal le = absurd (omega arith)
most Greater le = refl

-- where the last before a place is lower and the first behind it is greater, all are
pub ends : {T : Type 0} (order : T → Ordering) (xs : List T) (n : ℕ) → n ≤ length xs → ((d : T) → 0 < n → order (get_or xs (n - 1) d) ≡ Less) → ((d : T) → n < length xs → order (get_or xs n d) ≡ Greater)
    → IsNonDecreasingBy (λ y. ordering_index (order y)) xs → IsPartitionPoint (λ y. order y ≡ Less) (λ y. order y ≡ Greater) xs n
ends order xs n le low high rises = (
  λ k d ge less. least (order (get_or xs k d)) (subst (λ (o : Ordering). ordering_index (order (get_or xs k d)) ≤ ordering_index o) (low d (omega arith)) (rises k (n - 1) d (omega arith) (omega arith))),
  λ k d ge less. most (order (get_or xs k d)) (subst (λ (o : Ordering). ordering_index o ≤ ordering_index (order (get_or xs k d))) (high d (omega arith)) (rises n k d ge less)),
)

module _ {T Z : Type 0} (order : T → Ordering) (bs : List (Vec T Z)) (i : ℕ) (b : Vec T Z) (lt : i < length bs) (is : b ≡ get_or bs i b) where
  abbrev pub xs : List T
  xs = flat_map items_of bs

  abbrev pub s : ℕ
  s = length (flat_map items_of (take i bs))

  long : length (row items_of (slice_get bs i)) ≡ length b.items
  long = ap length (row_is bs i b lt is)

  pub inside : (j : ℕ) → j ≤ length b.items → s + j ≤ length xs
  inside j le = omega (arith, whole_long items_of bs i lt, long)

  pub within : (j : ℕ) → j < length b.items → s + j < length xs
  within j less = omega (arith, whole_long items_of bs i lt, long)

  pub read : (j : ℕ) (d : T) → j < length b.items → get_or xs (s + j) d ≡ get_or b.items j d
  read j d less = list_get items_of bs i j (s + j) b d lt refl (omega (arith, long)) is

  module _ (rises : IsNonDecreasingBy (λ y. ordering_index (order y)) xs) where
    rises_here : IsNonDecreasingBy (λ y. ordering_index (order y)) b.items
    rises_here a c d le less =
        let h = rises (s + a) (s + c) d (omega arith) (within c less) in
        subst (λ (y : T). ordering_index (order (get_or b.items a d)) ≤ ordering_index (order y)) (read c d less) (subst (λ (y : T). ordering_index (order y) ≤ ordering_index (order (get_or xs (s + c) d))) (read a d (omega arith)) h)

    -- what stands before a lower one is lower, and what stands behind a greater one is greater
    lower : (n k : ℕ) (d : T) → k ≤ n → n < length xs → order (get_or xs n d) ≡ Less → order (get_or xs k d) ≡ Less
    lower n k d le less e = least (order (get_or xs k d)) (subst (λ (o : Ordering). ordering_index (order (get_or xs k d)) ≤ ordering_index o) e (rises k n d le less))

    greater : (n k : ℕ) (d : T) → n ≤ k → k < length xs → order (get_or xs n d) ≡ Greater → order (get_or xs k d) ≡ Greater
    greater n k d le less e = most (order (get_or xs k d)) (subst (λ (o : Ordering). ordering_index o ≤ ordering_index (order (get_or xs k d))) e (rises n k d le less))

    module _ (full : AllByRecursion IsFilled bs) (low : 0 < i → StartsWithin order bs i) (high : i + 1 < length bs → StartsPast order bs (i + 1)) (j : ℕ) (le : j ≤ length b.items)
        (here : IsNonDecreasingBy (λ y. ordering_index (order y)) b.items → IsPartitionPoint (λ y. order y ≡ Less) (λ y. order y ≡ Greater) b.items j) where
      some : 0 < length b.items
      some = subst (λ (v : Vec T Z). 0 < length v.items) (sym is) (each_get IsFilled bs i b lt full)

      not_both : (o : Ordering) → is_gt o ≡ false → o ≡ Greater → ⊥
      not_both Less e f = (cc)
      not_both Equal e f = (cc)
      not_both Greater e f = (cc)

      before : AllWithin (λ y. order y ≡ Less) xs 0 (s + j)
      before k d ge less = elim (cases_lt 0 j) [
        | inl more ↦ lower (s + (j - 1)) k d (omega arith) (within (j - 1) (omega arith)) (ap order (read (j - 1) d (omega arith)) ∙ (here rises_here).0 (j - 1) d (omega arith) (omega arith))
        | inr none ↦ elim (cases_lt 0 i) [
          | inl later ↦
              (let up : order (get_or b.items 0 d) ≡ Greater = (here rises_here).1 0 d (omega arith) some in
              let down : is_gt (order (get_or b.items 0 d)) ≡ false = subst (λ (l : List T). is_gt (order (get_or l 0 d)) ≡ false) (row_is bs i b lt is) (low later d) in
              absurd (not_both (order (get_or b.items 0 d)) down up))
          | inr first ↦ (let z : i ≡ 0 = omega arith in let e : s ≡ 0 = ap (λ n. length (flat_map items_of (take n bs))) z in absurd (omega arith))
        ]
      ]

      next : i + 1 < length bs → (d : T) → order (get_or xs (s + length b.items) d) ≡ Greater
      next more d =
          let c : Vec T Z = get_or bs (i + 1) b in
          let full_next = (each_get IsFilled bs (i + 1) b more full) in
          let at : length (flat_map items_of (take (i + 1) bs)) + 0 ≡ s + length b.items = omega (arith, take_long items_of bs i lt, long) in
          let e = ap (λ n. get_or xs n d) (sym at) ∙ get_or-flat_map items_of bs (i + 1) 0 b d more full_next in
          let r = row_get items_of bs (i + 1) b more in
          ap order e ∙ past (order (get_or c.items 0 d)) (subst (λ (l : List T). is_gt (order (get_or l 0 d)) ≡ true) r (high more d))

      after : AllWithin (λ y. order y ≡ Greater) xs (s + j) (length xs)
      after k d ge less = elim (cases_lt j (length b.items)) [
        | inl more ↦ greater (s + j) k d ge less (ap order (read j d more) ∙ (here rises_here).1 j d (omega arith) more)
        | inr all ↦ elim (cases_lt (i + 1) (length bs)) [
          | inl another ↦ greater (s + length b.items) k d (omega arith) less (next another d)
          | inr last ↦ absurd (omega (arith, whole_long items_of bs i lt, long, ap length (ap (flat_map items_of) (drop_all (suc i) bs (omega arith)))))
        ]
      ]

      -- what the search of the block says of it holds of the list
      pub parted : IsPartitionPoint (λ y. order y ≡ Less) (λ y. order y ≡ Greater) xs (s + j)
      parted = (before, after)
