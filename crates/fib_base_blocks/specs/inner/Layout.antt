-- How the elements lie in blocks. No contract of a public call rests on this.
use Rattle.std.specs.Prelude.{◌≡◌, ℕ, zero, suc, ◌+◌, ◌-◌, ◌<◌, ◌≤◌, List, [], ◌∷◌, Vec, flat_map, length, take, drop, slice_get}
use Rattle.std.specs.Prelude.{slice_index_or, slice_set, true, false, vec_len, vec_capacity}
use Rattle.std.specs.List.{AllByRecursion, insert}
use Rattle.std.specs.Ordering.{is_gt}
use Rattle.std.specs.declared.cmp.Ordering.{Ordering}
use Rattle.fib_base_ordered.specs.inner.Blocks.{row}

abbrev pub items_of : {T Z : Type 0} → Vec T Z → List T
items_of b = b.items

-- the place of the first element of each block, where the first block starts at that place
abbrev pub starts_from : {X T : Type 0} → (X → List T) → ℕ → List X → List ℕ
starts_from items n [] = []
starts_from items n (x ∷ xs) = n ∷ starts_from items (n + length (items x)) xs

-- some elements
abbrev pub IsFilled : {T Z : Type 0} → Vec T Z → Type 0
IsFilled b = 0 < length b.items

-- blocks with the places at which they start
pub record AreBlocks {T Z : Type 0} (bs : List (Vec T Z)) (ns : List ℕ) : Type 0 where
  pub starts : ns ≡ starts_from items_of 0 bs
  pub filled : AllByRecursion IsFilled bs

-- how the fields of a list fit together
pub record IsLaid {T Z : Type 0} (bs : List (Vec T Z)) (ns : List ℕ) (n : ℕ) : Type 0 where
  pub blocks : AreBlocks bs ns
  pub count : n ≡ length (flat_map items_of bs)

-- that place of the list is the slot j of the block i
pub record IsPlace {T Z : Type 0} (bs : List (Vec T Z)) (n i j : ℕ) : Type 0 where
  pub inside : i < length bs
  pub place : length (flat_map items_of (take i bs)) + j ≡ n
  pub slot : j ≤ length (row items_of (slice_get bs i))
  pub within : n < length (flat_map items_of bs) → j < length (row items_of (slice_get bs i))

-- an element that comes to that place of the list belongs there
pub record IsSlot {T Z : Type 0} (bs : List (Vec T Z)) (n i j : ℕ) : Type 0 where
  pub inside : i < length bs
  pub place : length (flat_map items_of (take i bs)) + j ≡ n
  pub slot : j ≤ length (row items_of (slice_get bs i))

-- the block takes one more without memory
abbrev pub HasRoom : {T Z : Type 0} → List (Vec T Z) → ℕ → Type 0
HasRoom {T} {Z} bs i = (b : Vec T Z) → b ≡ slice_index_or bs i b → vec_len b < vec_capacity b

-- no element yet, and room for a block with its start
pub record IsSpare {T Z Y W : Type 0} (whole : Vec T Z) (one : Vec (Vec T Z) Y) (first : Vec ℕ W) : Type 0 where
  pub no_item : whole.items ≡ []
  pub no_block : one.items ≡ []
  pub no_start : first.items ≡ []
  pub block : 0 < vec_capacity one
  pub start : 0 < vec_capacity first

-- a block in two
pub record IsSplit {T Z : Type 0} (old new : List (Vec T Z)) (i : ℕ) : Type 0 where
  pub low : Vec T Z
  pub high : Vec T Z
  pub first : low.items ≡ take 128 (row items_of (slice_get old i))
  pub rest : high.items ≡ drop 128 (row items_of (slice_get old i))
  pub whole : new ≡ insert (slice_set old i low) (i + 1) high

-- numbers changed from one place up to another
abbrev pub changed : (ℕ → ℕ) → ℕ → ℕ → List ℕ → List ℕ
changed f from to [] = []
changed f zero zero (n ∷ ns) = n ∷ ns
changed f zero (suc to) (n ∷ ns) = f n ∷ changed f zero to ns
changed f (suc from) zero (n ∷ ns) = n ∷ ns
changed f (suc from) (suc to) (n ∷ ns) = n ∷ changed f from to ns

-- each from that place on is one greater
abbrev pub raised : ℕ → List ℕ → List ℕ
raised from ns = changed (λ n. n + 1) from (length ns) ns

-- each from that place on is one lower
abbrev pub lowered : ℕ → List ℕ → List ℕ
lowered from ns = changed (λ n. n - 1) from (length ns) ns

-- the block's first element is past what is sought, or isn't
abbrev pub StartsPast : {T Z : Type 0} → (T → Ordering) → List (Vec T Z) → ℕ → Type 0
StartsPast {T} order bs i = (d : T) → is_gt (order (slice_index_or (row items_of (slice_get bs i)) 0 d)) ≡ true

abbrev pub StartsWithin : {T Z : Type 0} → (T → Ordering) → List (Vec T Z) → ℕ → Type 0
StartsWithin {T} order bs i = (d : T) → is_gt (order (slice_index_or (row items_of (slice_get bs i)) 0 d)) ≡ false
