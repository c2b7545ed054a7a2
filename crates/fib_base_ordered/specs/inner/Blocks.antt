-- How the members lie in blocks. No contract of a public call rests on this. items says which members a block has.
use Rattle.std.specs.Prelude.{◌≡◌, ℕ, suc, ◌+◌, ◌-◌, ◌*◌, max, ◌<◌, ◌≤◌, List, [], ◌∷◌, ◌++◌, Option, Some, None, flat_map, length, take}
use Rattle.std.specs.Prelude.{drop, slice_get, vec_capacity}
use Rattle.std.specs.List.{AllByRecursion}
use Rattle.fib_base_ordered.specs.declared.block.Block.{Block}
use Rattle.fib_base_ordered.specs.Sets.{IsAscending}

-- the list in two: lower keys, and this key or greater ones
pub record IsCut {T : Type 0} (rank : T → ℕ) (key : ℕ) (xs low high : List T) : Type 0 where
  pub whole : xs ≡ low ++ high
  pub lower : AllByRecursion (λ x. rank x < key) low
  pub upper : AllByRecursion (λ x. key ≤ rank x) high

abbrev pub row : {X T : Type 0} → (X → List T) → Option X → List T
row items None = []
row items (Some x) = items x

-- what stands before the place j of the block i, and from there on
abbrev pub before : {X T : Type 0} → (X → List T) → List X → ℕ → ℕ → List T
before items xs i j = flat_map items (take i xs) ++ take j (row items (slice_get xs i))

abbrev pub after : {X T : Type 0} → (X → List T) → List X → ℕ → ℕ → List T
after items xs i j = drop j (row items (slice_get xs i)) ++ flat_map items (drop (suc i) xs)

abbrev pub rank_of_first : {T : Type 0} → (T → ℕ) → List T → ℕ
rank_of_first rank [] = 0
rank_of_first rank (x ∷ xs) = rank x

abbrev pub items_of : {T : Type 0} → Block T → List T
items_of b = b.items.items

-- some members, and room for one more than the most
pub record IsFilled {T : Type 0} (b : Block T) : Type 0 where
  pub some : 0 < length (items_of b)
  pub few : length (items_of b) ≤ 64
  pub roomy : 65 ≤ vec_capacity b.items

-- no member yet, and room for as many
pub record IsIdle {T : Type 0} (b : Block T) : Type 0 where
  pub empty : items_of b ≡ []
  pub roomy : 65 ≤ vec_capacity b.items

-- the list of blocks, and that of idle ones, have room for all blocks that there are
pub record AreRoomy {T : Type 0} (blocks idle : List (Block T)) (room idle_room : ℕ) : Type 0 where
  pub all : length blocks + length idle ≤ room
  pub spare : length blocks + length idle ≤ idle_room

-- a block counts as 32 members at least: so one of 65 counts as much as the two that it is split into
abbrev pub weight : {T : Type 0} → Block T → ℕ
weight b = max 32 (length (items_of b))

abbrev pub span : {T : Type 0} → List (Block T) → ℕ
span [] = 0
span (b ∷ bs) = weight b + span bs

-- the first member that comes takes a block
abbrev pub cost : {T : Type 0} → List (Block T) → ℕ
cost blocks = max 32 (span blocks)

-- there is room for so many members more: one a block, or, over all blocks that there are, 32 a block
abbrev pub Covers : {T : Type 0} → ℕ → List (Block T) → List (Block T) → Type 0
Covers spare blocks idle = spare ≤ max (length idle) (32 * (length blocks + length idle) - cost blocks)

-- how the fields of a set fit together
pub record AreBlocks {T : Type 0} (rank : T → ℕ) (blocks idle : List (Block T)) (room idle_room spare : ℕ) : Type 0 where
  pub ordered : IsAscending rank (flat_map items_of blocks)
  pub filled : AllByRecursion IsFilled blocks
  pub empty : AllByRecursion IsIdle idle
  pub roomy : AreRoomy blocks idle room idle_room
  pub covered : Covers spare blocks idle

-- all blocks but one are as between calls, and that one has a member more at most
pub record IsWide {T : Type 0} (blocks : List (Block T)) (i : ℕ) : Type 0 where
  pub earlier : AllByRecursion IsFilled (take i blocks)
  pub later : AllByRecursion IsFilled (drop (suc i) blocks)
  pub block : Block T
  pub here : slice_get blocks i ≡ Some block
  pub some : 0 < length (items_of block)
  pub few : length (items_of block) ≤ 65
  pub roomy : 65 ≤ vec_capacity block.items
