-- Which entries forward, as a set of prefixes. No contract of a public call rests on this.
use Rattle.std.specs.Prelude.{◌≡◌, ◌↔◌, ℕ, ◌≤◌, Bool, true, ◌&&◌, ◌||◌, List, Some, Contains, map, slice_get, take}
use Rattle.std.specs.List.{list_any}
use Rattle.fib_addr.specs.Prefixes.{Prefix, same_prefix}
use Rattle.fib_resolve.specs.Forwarding.{forwards}
use Rattle.fib_resolve.specs.declared.aims.Marked.{Marked}
use Rattle.fib_resolve.specs.declared.types.Tables.{Tables}
use Rattle.fib_resolve_changes.specs.Ranks.{is_usable_mark, has_entry}
use Rattle.fib_entries_rows.specs.Rows.{Row}
use Rattle.fib_entries_rows.specs.Known.{prefix_of, rank_of}

abbrev pub has_prefix : List Prefix → Prefix → Bool
has_prefix ks p = list_any (same_prefix p) ks

-- those that forward, and no others
abbrev pub AreForwarding : Tables → List Prefix → Type 0
AreForwarding S ks = (p : Prefix) → has_prefix ks p ≡ forwards S p

-- the prefix was added where one of the paths is usable
abbrev pub AddsWhere : List Marked → Prefix → List Prefix → List Prefix → Type 0
AddsWhere marks e old new =
    (p : Prefix) → has_prefix new p ≡ (has_prefix old p || (same_prefix p e && list_any (is_usable_mark (has_prefix old)) marks))

-- a prefix behind its rank
abbrev pub ranked_in : List Row → Prefix → ℕ × Prefix
ranked_in rows p = (rank_of rows p, p)

-- no rank is below one before it
abbrev pub AreRising : List (ℕ × Prefix) → Type 0
AreRising xs = (i j : ℕ) (x y : ℕ × Prefix) → i ≤ j → slice_get xs i ≡ Some x → slice_get xs j ≡ Some y → x.0 ≤ y.0

-- the prefixes of the rows with their ranks, in order of the ranks
pub record AreRanked (rows : List Row) (xs : List (ℕ × Prefix)) : Type 0 where
  pub members : (x : ℕ × Prefix) → Contains xs x ↔ Contains (map (ranked_in rows) (map prefix_of rows)) x
  pub rising : AreRising xs

-- each entry with its rank, in order of the ranks
pub record IsByRank (S : Tables) (rank : Prefix → ℕ) (xs : List (ℕ × Prefix)) : Type 0 where
  pub found : (p : Prefix) → has_entry S p ≡ true → Contains xs (rank p, p)
  pub own : (x : ℕ × Prefix) → Contains xs x → x.0 ≡ rank x.1
  pub rising : AreRising xs

-- those of the first n that forward are there
pub record AreSoFar (S : Tables) (xs : List (ℕ × Prefix)) (n : ℕ) (ks : List Prefix) : Type 0 where
  pub real : (p : Prefix) → has_prefix ks p ≡ true → forwards S p ≡ true
  pub found : (x : ℕ × Prefix) → Contains (take n xs) x → forwards S x.1 ≡ true → has_prefix ks x.1 ≡ true
