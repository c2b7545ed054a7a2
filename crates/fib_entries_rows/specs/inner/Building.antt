-- What stands while entries are made anew. No contract of a public call rests on this.
use Rattle.std.specs.Prelude.{◌≡◌, ◌↔◌, true, ◌<◌, ℕ, Bool, List, length, count_by, Contains, Option, Some, None, IsSome, slice_get, slice_index}
use Rattle.std.specs.Prelude.{slice_index_or, slice_set, option_map, position, ◌&&◌, ◌+◌, ◌*◌}
use Rattle.std.specs.List.{AllZip, list_any, position_from}
use Rattle.std.specs.Set.{is_member}
use Rattle.std.specs.Cmp.Lexicographic.{pointwise}
use Rattle.fib_addr.specs.Prefixes.{Prefix, same_prefix}
use Rattle.fib_resolve_pairs.specs.Numbers.{number_in}
use Rattle.fib_resolve.specs.Keys.{source_rank, same_path, same_source}
use Rattle.fib_resolve.specs.Pairs.{chosen, pairs}
use Rattle.fib_resolve.specs.Tables.{IsSound}
use Rattle.fib_resolve.specs.Loops.{kind_targets}
use Rattle.fib_resolve.specs.declared.pairs.Pair.{Pair}
use Rattle.fib_resolve.specs.declared.types.FibSource.{FibSource}
use Rattle.fib_resolve.specs.declared.types.Tables.{Tables}
use Rattle.fib_resolve_changes.specs.Ranks.{wakes, Falls}
use Rattle.fib_base_interned.specs.Interned.{kept_of}
use Rattle.fib_entries_rows.specs.Known.{PathKept, content_of, AreBestFirst, IsRow, rank_of}
use Rattle.fib_entries_rows.specs.Rows.{Row}
use Rattle.fib_entries_rows.specs.declared.parts.Parts.{Parts}

-- each list that a row names is kept
abbrev pub AreHeld : List Row → List PathKept → Type 0
AreHeld rows lists = (r : Row) (p : FibSource × ℕ) → Contains rows r → Contains r.pairs p → IsSome (kept_of lists p.1)

-- each pair's list is kept under its number, and each kept list has as many users as pairs have it
pub record AreTaken (lists : List PathKept) (xs : List Pair) (ids : List ℕ) : Type 0 where
  pub each : AllZip (λ x id. content_of lists id ≡ Some x.paths) xs ids
  pub users : (k : PathKept) → Contains lists k → k.users ≡ count_by (λ x. pointwise same_path x.paths k.content) xs

-- where the place of a pair is kept: each entry has seven slots, one a source
abbrev pub slot_of : Tables → Prefix → FibSource → Option ℕ
slot_of S p s = option_map (λ n. 7 * n + source_rank s) (number_in S p)

abbrev pub kept_in : Option ℕ → ℕ → List (Option ℕ) → List (Option ℕ)
kept_in None place places = places
kept_in (Some slot) place places = slice_set places slot (Some place)

abbrev pub is_pair_of : Prefix → FibSource → Pair → Bool
is_pair_of p s x = same_prefix p x.prefix && same_source s x.source

-- the slots have the first places of the entries' pairs, where the first of these stands at the place n
abbrev pub AreSlots : Tables → ℕ → List Pair → List (Option ℕ) → Type 0
AreSlots S n xs places =
    (p : Prefix) (s : FibSource) (k : ℕ) → number_in S p ≡ Some k
    → slice_index_or places (7 * k + source_rank s) None ≡ position_from (is_pair_of p s) n xs

abbrev pub ArePlaced : Tables → List Pair → List (Option ℕ) → Type 0
ArePlaced S xs places =
    (p : Prefix) (s : FibSource) (k : ℕ) → number_in S p ≡ Some k
    → slice_index_or places (7 * k + source_rank s) None ≡ position (λ x. same_prefix p x.prefix && same_source s x.source) xs

-- the tables are sound, and all else is what they mean
pub record AreParts (parts : Parts) : Type 0 where
  pub sound : IsSound parts.meaning.now
  pub taken : AreTaken parts.lists.now (pairs parts.meaning.now) parts.ids.now
  pub places : ArePlaced parts.meaning.now (pairs parts.meaning.now) parts.places.now

-- the first has an edge to the second
abbrev pub has_edge : Tables → Prefix → Prefix → Bool
has_edge S d e = list_any (λ p. is_member same_prefix (kind_targets S d p.kind) e) (chosen S d)

-- the prefix's pairs of the first sources, each with the number at its place
pub record ArePicked (e : Prefix) (xs : List Pair) (ids : List ℕ) (done : ℕ) (held : List (FibSource × ℕ)) : Type 0 where
  pub best_first : AreBestFirst held
  pub below : (p : FibSource × ℕ) → Contains held p → source_rank p.0 < done
  pub found : (x : Pair) → Contains xs x → e ≡ x.prefix → source_rank x.source < done → (p : FibSource × ℕ) × Contains held p
      × (p.0 ≡ x.source)
  pub real : (p : FibSource × ℕ) → Contains held p → (k : ℕ) × (x : Pair) × (slice_get xs k ≡ Some x) × (slice_get ids k ≡ Some p.1)
      × (e ≡ x.prefix) × (p.0 ≡ x.source)

-- by places in an order of entries, an edge that is left without looped paths
abbrev pub IsKeptEdge : Tables → List Prefix → ℕ × ℕ → Type 0
IsKeptEdge S order d = (e : Prefix) × (t : Prefix) × (slice_get order d.0 ≡ Some e) × (slice_get order d.1 ≡ Some t) × (wakes S e t ≡ true)

-- those of the first places
abbrev pub AreKeptEdges : Tables → List Prefix → ℕ → List (ℕ × ℕ) → Type 0
AreKeptEdges S order done edges = (d : ℕ × ℕ) → Contains edges d ↔ (d.0 < done) × IsKeptEdge S order d

-- the rows of the first entries in order
pub record AreRows (lists : List PathKept) (S : Tables) (order : List Prefix) (ranks : List ℕ) (done : ℕ) (rows : List Row) : Type 0 where
  pub len : length rows ≡ done
  pub own : (k : ℕ) (r : Row) → slice_get rows k ≡ Some r → slice_get order k ≡ Some r.prefix
  pub ranked : (k : ℕ) (r : Row) → slice_get rows k ≡ Some r → r.rank ≡ slice_index ranks k
  pub each : (r : Row) → Contains rows r → IsRow lists S r

-- the rows of all entries in order, with ranks that fall
pub record AreAnew (lists : List PathKept) (S : Tables) (order : List Prefix) (rows : List Row) : Type 0 where
  pub ranks : List ℕ
  pub made : AreRows lists S order ranks (length order) rows
  pub falls : Falls S (rank_of rows)
