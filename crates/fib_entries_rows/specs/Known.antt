-- What is known of the entries of tables, as rows and lists, and the tables for which it stands.
use Rattle.std.specs.Prelude.{◌≡◌, ◌↔◌, ◌^◌, ◌-◌, ◌<◌, true, ℕ, Bool, List, [], ◌∷◌}
use Rattle.std.specs.Prelude.{map, min, find, count_by, Contains, Option, Some, None, option_map, if◌then◌else◌}
use Rattle.std.specs.List.{AllByRecursion}
use Rattle.std.specs.Cmp.Lexicographic.{pointwise}
use Rattle.fib_reach.specs.Walks.{AllDiffer}
use Rattle.fib_addr.specs.Prefixes.{Prefix, IsPrefix, same_prefix}
use Rattle.fib_cover.specs.Covers.{IsAscending}
use Rattle.fib_resolve.specs.Keys.{source_rank, same_path}
use Rattle.fib_resolve.specs.Tables.{IsSound}
use Rattle.fib_resolve.specs.Pairs.{pairs, entries, chosen}
use Rattle.fib_resolve.specs.Loops.{targets, looped_kind}
use Rattle.fib_resolve.specs.Forwarding.{is_met}
use Rattle.fib_resolve.specs.Aims.{marked_list}
use Rattle.fib_resolve.specs.Sizes.{size}
use Rattle.fib_resolve.specs.declared.pairs.Pair.{Pair}
use Rattle.fib_resolve.specs.declared.types.Path.{Path}
use Rattle.fib_resolve.specs.declared.types.PathKind.{PathKind}
use Rattle.fib_resolve.specs.declared.types.PathKind.TheVariants as kinds
use Rattle.fib_resolve.specs.declared.types.Need.{Need}
use Rattle.fib_resolve.specs.declared.types.FibSource.{FibSource}
use Rattle.fib_resolve.specs.declared.types.Tables.{Tables}
use Rattle.fib_resolve_changes.specs.Ranks.{Falls, has_entry}
use Rattle.fib_base_interned.specs.Interned.{Kept, kept_of}
use Rattle.fib_entries_rows.specs.Rows.{Row}

abbrev pub PathKept : Type 0
PathKept = Kept (List Path)

-- a row for each entry, in order of bits, then length; the path-lists that rows name; the number of objects
pub record Known : Type 0 where
  pub rows : List Row
  pub lists : List PathKept
  pub objects : ℕ

-- the paths of the list with that number
abbrev pub content_of : List PathKept → ℕ → Option (List Path)
content_of lists id = option_map (λ k. k.content) (kept_of lists id)

abbrev pub prefix_of : Row → Prefix
prefix_of r = r.prefix

abbrev pub row_of : List Row → Prefix → Option Row
row_of rows e = find (λ r. same_prefix e r.prefix) rows

abbrev pub rank_in : Option Row → ℕ
rank_in None = 0
rank_in (Some r) = r.rank

-- 0 where the prefix is no entry
abbrev pub rank_of : List Row → Prefix → ℕ
rank_of rows e = rank_in (row_of rows e)

-- a source with the number of its list is that pair
abbrev pub IsHeld : List PathKept → FibSource × ℕ → Pair → Type 0
IsHeld lists p x = (p.0 ≡ x.source) × (content_of lists p.1 ≡ Some x.paths)

abbrev pub AreBestFirst : List (FibSource × ℕ) → Type 0
AreBestFirst [] = Unit {0}
AreBestFirst (p ∷ ps) = AllByRecursion (λ q. source_rank p.0 < source_rank q.0) ps × AreBestFirst ps

-- the prefix's pairs, each once, best first
pub record ArePairs (lists : List PathKept) (S : Tables) (e : Prefix) (held : List (FibSource × ℕ)) : Type 0 where
  pub best_first : AreBestFirst held
  pub found : (x : Pair) → Contains (pairs S) x → e ≡ x.prefix → (p : FibSource × ℕ) × Contains held p × IsHeld lists p x
  pub real : (p : FibSource × ℕ) → Contains held p → (x : Pair) × Contains (pairs S) x × (e ≡ x.prefix) × IsHeld lists p x

-- whether the need of a recursive path is met; other paths need nothing
abbrev pub kind_met : Tables → Need → PathKind → Bool
kind_met S need (kinds.Recursive a) = is_met S need a
kind_met S need kinds.Drop = true
kind_met S need kinds.Local = true
kind_met S need (kinds.Attached i) = true
kind_met S need (kinds.Hop a i) = true
kind_met S need kinds.Cover = true

-- the row of an entry: its pairs; for each path of its chosen list whether it is looped, whether its need is met, and what it is for;
-- and the entries with an edge to it
pub record IsRow (lists : List PathKept) (S : Tables) (r : Row) : Type 0 where
  pub prefix : IsPrefix r.prefix
  pub pairs : ArePairs lists S r.prefix r.pairs
  pub looped : r.looped ≡ map (λ p. looped_kind S r.prefix p.kind) (chosen S r.prefix)
  pub met : r.met ≡ map (λ p. kind_met S p.need p.kind) (chosen S r.prefix)
  pub marked : r.marked ≡ marked_list S r.prefix
  pub dependants : (d : Prefix) → Contains r.dependants d ↔ Contains (targets S d) r.prefix
  pub dependants_once : AllDiffer r.dependants

-- the users of a list: how many pairs have it
abbrev pub holders : Tables → List Path → ℕ
holders S paths = count_by (λ x. pointwise same_path x.paths paths) (pairs S)

-- what is known is what the tables mean
pub record StandsFor (v : Known) (S : Tables) : Type 0 where
  pub sound : IsSound S
  pub ordered : IsAscending (map prefix_of v.rows)
  pub entries : (e : Prefix) → Contains (map prefix_of v.rows) e ↔ Contains (entries S) e
  pub rows : (r : Row) → Contains v.rows r → IsRow v.lists S r
  pub falls : Falls S (rank_of v.rows)
  pub users : (k : PathKept) → Contains v.lists k → k.users ≡ holders S k.content
  pub objects : v.objects ≡ min (size S) (2 ^ 32 - 1)

-- the chosen list of an entry; None where the prefix is none
abbrev pub chosen_of : Tables → Prefix → Option (List Path)
chosen_of S e = if has_entry S e then Some (chosen S e) else None
