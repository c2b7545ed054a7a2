-- A board of 64 objects and one worker, filled for the fresh tables, and changes to it.
use Rattle.std.specs.Prelude.{◌≡◌, ℕ, ◌<◌, false, [], ◌∷◌, length, replicate, slice_index, Some}
use Rattle.std.specs.List.{AllByRecursion}
use Rattle.fib_addr.specs.Prefixes.{Prefix}
use Rattle.fib_resolve.specs.Tables.{fresh}
use Rattle.fib_union.specs.Marks.{unseen}
use Rattle.fib_core.specs.declared.word.Word.TheVariants as words
use Rattle.fib_core.specs.Words.{decoded, encoded, target}
use Rattle.fib_core.specs.StandsFor.{Stands, StandsFor}
use Rattle.fib_core.specs.Union.{Goes, Union}
use Rattle.fib_core_lawful.specs.State.{begun, first_control, stored_union}
use Rattle.fib_core_steady.specs.Names.{Names, IsChild}
use Rattle.fib_core_steady.specs.Promise.{IsPromised, IsRight}
use Rattle.fib_core_board.specs.Boards.{Board, as_control}
use Rattle.trial_filling.specs.inner.Filled.{IsFilled}
use Rattle.trial_filling.specs.inner.Fresh.{forest, after_stores, number_of}

-- the cells after the first i stores; what was retired is retired since the last look
pub record HasStores (i : ℕ) (u : Union) : Type 0 where
  pub filled : IsFilled forest u
  pub long : length u.cells ≡ 1024
  pub says : (k : ℕ) → k < 1024 → decoded (slice_index u.cells k) ≡ after_stores i k
  pub marks : AllByRecursion (λ r. r.marks ≡ unseen ∷ []) u.retired

-- nothing was changed yet, and nobody is out
pub record IsFirst (b : Board) : Type 0 where
  pub all : b.objects ≡ 64
  pub alone : b.workers ≡ 1
  pub log : b.log ≡ (first_control 64 1).log
  pub home : b.out ≡ replicate 8 false

pub record IsFilling (i : ℕ) (b : Board) : Type 0 where
  pub first : IsFirst b
  pub stores : HasStores i b.union

-- after the last store of the filling, and a look that found no pass
pub record IsReady (b : Board) : Type 0 where
  pub first : IsFirst b
  pub stands : Stands b.union fresh
  pub named : StandsFor b.union.cells number_of fresh
  pub stores : HasStores 254 b.union
  pub free : (j v : ℕ) → Goes b.union j v → target v ≡ 20 → ⊥

-- a change to the same tables is being made
pub record IsChanging (b : Board) : Type 0 where
  pub log : b.log ≡ begun (first_control 64 1).log fresh
  pub all : b.objects ≡ 64
  pub named : StandsFor b.union.cells number_of fresh
  pub quiet : b.union.retired ≡ []
  pub long : length b.union.cells ≡ 1024
  pub free : (j v : ℕ) → Goes b.union j v → target v ≡ 20 → ⊥

-- and a number stands in the first cell of object 20, which is free
abbrev pub seven : ℕ
seven = encoded (words.Plain 7)

pub record HasNumber (b : Board) : Type 0 where
  pub before : Board
  pub was : IsChanging before
  pub log : b.log ≡ before.log
  pub all : b.objects ≡ 64
  pub union : b.union ≡ stored_union (as_control before) 320 seven

-- or a ply grows in object 20, and leaves again
pub record IsGrowing (i : ℕ) (b : Board) : Type 0 where
  pub log : b.log ≡ begun (first_control 64 1).log fresh
  pub all : b.objects ≡ 64
  pub alone : b.workers ≡ 1
  pub stores : HasStores i b.union
  -- until it is linked
  pub free : i < 271 → (j v : ℕ) → Goes b.union j v → target v ≡ 20 → ⊥
  pub names : Names
  pub path : IsChild names 0 1 20
  pub balances : (e : Prefix) (o : ℕ) → names.balance e ≡ Some o → (14 < o) × (o < 20)
  pub right : IsRight (fresh ∷ fresh ∷ []) names 0 1 (words.ToBalance 15)
  pub promised : IsPromised (fresh ∷ fresh ∷ []) names b.union

-- the first board with the union of the other, and its count of stores
abbrev pub with_union : Board → Board → Board
with_union b c = record b { union = c.union; stored = c.stored }
