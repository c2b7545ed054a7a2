-- The part of the entries to which changed ones lead, and ranks that fall there.
use Rattle.std.specs.Prelude.{◌≡◌, ◌↔◌, ◌⊎◌, ◌<◌, ◌^◌, ℕ, Bool, true, List, length, position, Contains, Option, Some, None}
use Rattle.std.specs.Prelude.{slice_get, slice_index}
use Rattle.std.specs.Set.{is_member}
use Rattle.fib_addr.specs.Prefixes.{Prefix, same_prefix}
use Rattle.fib_reach.specs.Walks.{AllDiffer}
use Rattle.fib_resolve.specs.Loops.{looped_kind, targets}
use Rattle.fib_resolve.specs.Pairs.{chosen}
use Rattle.fib_resolve.specs.declared.types.Path.{Path}
use Rattle.fib_resolve.specs.declared.types.Tables.{Tables}
use Rattle.fib_resolve_changes.specs.Ranks.{Falls}
use Rattle.fib_resolve_changes.specs.Reached.{IsReached}
use Rattle.fib_entries_rows.specs.Known.{rank_of, row_of}
use Rattle.fib_entries_rows.specs.Rows.{Row}
use Rattle.fib_entries_rows.specs.inner.Building.{AreKeptEdges}
use Rattle.fib_entries_rows.specs.inner.Reaching.{kind_loops}
use Rattle.fib_follow_view.specs.Views.{Seen, is_changed}

-- the members, and whether nothing else leads to one of them; the edges that lie on cycles by their ends, and those that are left without looped paths by their places among the members;
-- those that leave the part, by the place where each begins and where it leads; a number for each member
pub record Part : Type 0 where
  pub members : List Prefix
  pub is_apart : Bool
  pub loops : List (Prefix × Prefix)
  pub left : List (ℕ × ℕ)
  pub out : List (ℕ × Prefix)
  pub numbers : List ℕ

abbrev pub in_part : Part → Prefix → Bool
in_part p e = is_member same_prefix p.members e

-- the part has what was made anew, and what a cycle through it can have, in the tables before and after; of its paths those are looped that
-- the tables after have so, the edges that are left without these are listed, and those that leave it, and the numbers fall inside it
pub record IsPart (v : Seen) (S T : Tables) (p : Part) : Type 0 where
  pub once : AllDiffer p.members
  pub reached : IsReached S T (is_changed v.changed) (in_part p)
  pub apart : p.is_apart ≡ true → (x y : Prefix) → in_part p y ≡ true → Contains (targets T x) y → in_part p x ≡ true
  pub looped : (e : Prefix) (q : Path) → in_part p e ≡ true → Contains (chosen T e) q → kind_loops p.loops e q.kind ≡ looped_kind T e q.kind
  pub left : AreKeptEdges T p.members (length p.members) p.left
  pub out : (d : ℕ × Prefix) → Contains p.out d
      ↔ (e : Prefix) × (slice_get p.members d.0 ≡ Some e) × Contains (targets T e) d.1 × (Contains p.members d.1 → ⊥)
  pub falls : (d : ℕ × ℕ) → Contains p.left d → slice_index p.numbers d.1 < slice_index p.numbers d.0

-- the rank of a row; a new entry begins above all
abbrev pub rank_or_top : Option Row → ℕ
rank_or_top None = 2 ^ 31
rank_or_top (Some r) = r.rank

abbrev pub rank_before : Seen → Prefix → ℕ
rank_before v e = rank_or_top (row_of v.before.rows e)

abbrev pub rank_at : Seen → List ℕ → Prefix → Option ℕ → ℕ
rank_at v ranks e None = rank_of v.before.rows e
rank_at v ranks e (Some k) = slice_index ranks k

-- a member's rank by its place, else that of before
abbrev pub rank_after : Seen → Part → List ℕ → Prefix → ℕ
rank_after v p ranks e = rank_at v ranks e (position (same_prefix e) p.members)

-- a rank for each member: with them ranks fall after the change
pub record AreRanks (v : Seen) (S T : Tables) (p : Part) (ranks : List ℕ) : Type 0 where
  pub each : length ranks ≡ length p.members
  pub falls : Falls T (rank_after v p ranks)

-- a member's rank is less than their number
abbrev pub IsLow : Seen → Part → Type 0
IsLow v p = (e : Prefix) × Contains p.members e × (rank_before v e < length p.members)

-- that, or an edge leaves the part
abbrev pub IsStuck : Seen → Part → Type 0
IsStuck v p = IsLow v p ⊎ ((d : ℕ × Prefix) × Contains p.out d)
