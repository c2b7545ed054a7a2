-- Which members of a part have another rank. No contract of a public call rests on this.
use Rattle.std.specs.Prelude.{◌≡◌, ◌≢◌, ◌<◌, ◌==◌, ℕ, List, [], ◌∷◌, map, Contains, Some, slice_get, slice_index, if◌then◌else◌}
use Rattle.fib_addr.specs.Prefixes.{Prefix}
use Rattle.fib_reach.specs.Walks.{AllDiffer}
use Rattle.fib_entries_rows.specs.Changes.{prefix_moved}
use Rattle.fib_entries_rows.specs.Known.{rank_of}
use Rattle.fib_entries_rows.specs.declared.changes.Moved.{Moved}
use Rattle.fib_follow_view.specs.Views.{Seen}
use Rattle.fib_follow_view.specs.inner.Told.{entry_in}

-- that rank, or 0 where the prefix is no entry after the change
abbrev pub left_in : Seen → Prefix → ℕ → ℕ
left_in v e rank = if entry_in v e then rank else 0

abbrev pub moved_with : Prefix → ℕ → ℕ → List Moved
moved_with e had has = if had == has then [] else record { prefix = e; rank = had } ∷ []

-- of the first members those that have another rank by their places
pub record AreFirstMoves (v : Seen) (members : List Prefix) (ranks : List ℕ) (place : ℕ) (out : List Moved) : Type 0 where
  pub once : AllDiffer members → AllDiffer (map prefix_moved out)
  pub inside : (m : Moved) → Contains out m → (k : ℕ) × (k < place) × (slice_get members k ≡ Some m.prefix)
      × (m.rank ≡ rank_of v.before.rows m.prefix) × (left_in v m.prefix (slice_index ranks k) ≢ m.rank)
  pub found : (k : ℕ) (e : Prefix) → k < place → slice_get members k ≡ Some e
      → left_in v e (slice_index ranks k) ≢ rank_of v.before.rows e → Contains (map prefix_moved out) e
