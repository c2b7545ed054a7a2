-- What a step asks and what it makes, one at a time. No contract of a public call rests on this but for what is taken back.
use Rattle.std.specs.Prelude.{◌≡◌, ◌↔◌, ◌⊎◌, ℕ, false, List, Some, None, Contains, map, slice_get}
use Rattle.std.specs.List.{insert, remove}
use Rattle.std.specs.Set.{is_member}
use Rattle.fib_addr.specs.Prefixes.{Prefix, same_prefix}
use Rattle.fib_cover.specs.Covers.{IsAscending}
use Rattle.fib_base_interned.specs.Interned.{AreInterned, Takes, TakesBack}
use Rattle.fib_entries_rows.specs.Known.{PathKept, prefix_of, row_of}
use Rattle.fib_entries_rows.specs.Rows.{Row}
use Rattle.fib_entries_rows.specs.inner.Plies.{IsGap}
use Rattle.fib_follow_write.specs.Steps.{AreTaken}
use Rattle.fib_follow_write.specs.Written.{blank, led}
use Rattle.fib_follow_write.specs.declared.plan.Edge.{Edge}
use Rattle.fib_follow_write.specs.declared.plan.Listed.{Listed}
use Rattle.fib_follow_write.specs.declared.plan.Paired.{Paired}

-- the edge isn't there
pub record IsToLead (e : Edge) (rows : List Row) : Type 0 where
  pub ordered : IsAscending (map prefix_of rows)
  pub absent : (r : Row) → Contains rows r → e.to ≡ r.prefix → is_member same_prefix r.dependants e.from ≡ false

pub record IsLed (e : Edge) (old new : List Row) : Type 0 where
  pub ordered : IsAscending (map prefix_of old)
  pub made : new ≡ map (led e) old

-- the prefix has no row
pub record IsToCome (p : Prefix) (rows : List Row) : Type 0 where
  pub ordered : IsAscending (map prefix_of rows)
  pub absent : Contains (map prefix_of rows) p → ⊥

pub record HasCome (p : Prefix) (old new : List Row) : Type 0 where
  pub ordered : IsAscending (map prefix_of old)
  pub place : ℕ
  pub gap : IsGap (map prefix_of old) place p
  pub came : new ≡ insert old place (blank p)

-- its row went, where there was one
pub record HasGone (p : Prefix) (old new : List Row) : Type 0 where
  pub ordered : IsAscending (map prefix_of old)
  pub went : ((None ≡ row_of old p) × (new ≡ old))
      ⊎ ((k : ℕ) × (r : Row) × (slice_get old k ≡ Some r) × (p ≡ r.prefix) × (new ≡ remove old k))

-- the prefix is no member
abbrev pub IsToJoin : Prefix → List Prefix → Type 0
IsToJoin p order = Contains order p → ⊥

pub record HasJoined (p : Prefix) (old new : List Prefix) : Type 0 where
  pub ordered : IsAscending old
  pub absent : Contains old p → ⊥
  pub members : (q : Prefix) → Contains new q ↔ Contains old q ⊎ (q ≡ p)
  pub later : IsAscending new

-- a list may always be taken
abbrev pub IsFree : Listed → List PathKept → Type 0
IsFree l lists = Unit {0}

pub record IsTaken (l : Listed) (old new : List PathKept) : Type 0 where
  pub id : ℕ
  pub taken : Takes old new l.paths id
  pub apart : AreInterned new
  pub back : TakesBack old new id

abbrev pub AreTakenFor : Paired → List PathKept → List PathKept → Type 0
AreTakenFor b old new = AreTaken IsTaken b.pairs old new

abbrev pub AreFree : Paired → List PathKept → Type 0
AreFree b lists = Unit {0}
