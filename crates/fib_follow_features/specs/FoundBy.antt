-- By what an entry is found: by the paths of its chosen list, by the next hops of its written lists, and by its cover.
use Rattle.std.specs.Prelude.{◌≡◌, ◌↔◌, ◌==◌, ◌++◌, ℕ, Bool, true, false, List, [], ◌∷◌, map, filter, flat_map, Contains}
use Rattle.std.specs.Prelude.{Option, Some, None, option_to_list, unwrap_or, if◌then◌else◌}
use Rattle.std.specs.List.{list_any}
use Rattle.fib_addr.specs.Prefixes.{Prefix}
use Rattle.fib_addr.specs.Longest.{longest}
use Rattle.fib_resolve.specs.Pairs.{is_short}
use Rattle.fib_resolve.specs.declared.pairs.Pair.{Pair}
use Rattle.fib_resolve.specs.declared.types.FibSource.{FibSource}
use Rattle.fib_resolve.specs.declared.types.FibSource.TheVariants as sources
use Rattle.fib_resolve.specs.declared.types.Need.{Need}
use Rattle.fib_resolve.specs.declared.types.Need.TheVariants as needs
use Rattle.fib_resolve.specs.declared.types.Path.{Path}
use Rattle.fib_resolve.specs.declared.types.PathKind.{PathKind}
use Rattle.fib_resolve.specs.declared.types.PathKind.TheVariants as kinds
use Rattle.fib_entries_rows.specs.Known.{PathKept, content_of}
use Rattle.fib_entries_rows.specs.Rows.{Row}
use Rattle.fib_follow_features.specs.Holders.{Holders, IsFound}
use Rattle.fib_follow_features.specs.declared.feature.Feature.{Feature}
use Rattle.fib_follow_features.specs.declared.feature.Feature.TheVariants as features

-- a source with its list
abbrev pub Listed : Type 0
Listed = FibSource × List Path

-- the interface by which the path leaves
abbrev pub over_of : PathKind → Option Feature
over_of (kinds.Attached i) = Some (features.Over i)
over_of (kinds.Hop a i) = Some (features.Over i)
over_of kind = None

-- its Hop end; an Attached path has one where its entry is an address
abbrev pub end_of : Prefix → PathKind → Option Feature
end_of e (kinds.Attached i) = if e.len == 32 then Some (features.End (record { interface = i; next_hop = e.bits })) else None
end_of e (kinds.Hop a i) = Some (features.End (record { interface = i; next_hop = a }))
end_of e kind = None

-- the next hop of which it needs something
abbrev pub needed : Need → ℕ → Option Feature
needed needs.Any a = None
needed needs.Host a = Some (features.Needs a)
needed needs.Attached a = Some (features.Needs a)

abbrev pub need_of : Need → PathKind → Option Feature
need_of need (kinds.Recursive a) = needed need a
need_of need kind = None

-- its next hop
abbrev pub via_of : PathKind → Option Feature
via_of (kinds.Recursive a) = Some (features.Via a)
via_of kind = None

abbrev pub path_features : Prefix → Path → List Feature
path_features e p = option_to_list (over_of p.kind) ++ option_to_list (end_of e p.kind) ++ option_to_list (need_of p.need p.kind)

abbrev pub via_features : Path → List Feature
via_features p = option_to_list (via_of p.kind)

-- the API or the command line
abbrev pub is_written : FibSource → Bool
is_written sources.Api = true
is_written sources.Cli = true
is_written source = false

-- a cover makes such a pair, of a neighbor or of a next hop
abbrev pub is_by_cover : FibSource → Bool
is_by_cover sources.Adjacency = true
is_by_cover sources.RecursiveResolution = true
is_by_cover source = false

abbrev pub written_features : Listed → List Feature
written_features l = if is_written l.0 then flat_map via_features l.1 else []

-- the list of the first source
abbrev pub chosen_list : List Listed → List Path
chosen_list [] = []
chosen_list (l ∷ ls) = l.1

-- the cover of a host
abbrev pub host_under : Prefix → Prefix → Option Feature
host_under e cover = if e.len == 32 then Some (features.Under cover) else None

-- where a pair is by it
abbrev pub under_of : Prefix → Prefix → List Listed → Option Feature
under_of e cover ls = if list_any (λ l. is_by_cover l.0) ls then host_under e cover else None

-- by what an entry with that cover and these lists is found; the best source's list stands first and is the chosen one
abbrev pub features_of : Prefix → Prefix → List Listed → List Feature
features_of e cover ls = flat_map (path_features e) (chosen_list ls) ++ flat_map written_features ls ++ option_to_list (under_of e cover ls)

-- the lists of pairs
abbrev pub pair_list : Pair → Listed
pair_list x = (x.source, x.paths)

abbrev pub pair_features : Prefix → Prefix → List Pair → List Feature
pair_features e cover pairs = features_of e cover (map pair_list pairs)

-- the lists that a row names
abbrev pub held_list : List PathKept → FibSource × ℕ → Listed
held_list lists q = (q.0, unwrap_or (content_of lists q.1) [])

-- the longest of these prefixes below 32 that contains the address, that of every address where none does
abbrev pub cover_among : List Prefix → Prefix → Prefix
cover_among order e = longest e.bits (filter is_short order)

abbrev pub row_features : List PathKept → List Prefix → Row → List Feature
row_features lists order r = features_of r.prefix (cover_among order r.prefix) (map (held_list lists) r.pairs)

-- each of the rows is found by each of its features, and maybe by others; the covers are among the prefixes `order`
abbrev pub AreNoted : List PathKept → List Prefix → List Row → List Holders → Type 0
AreNoted lists order rows sets =
    (r : Row) (f : Feature) → Contains rows r → Contains (row_features lists order r) f → IsFound sets f r.prefix

-- what is found by a feature are the rows that have it
abbrev pub AreExact : List PathKept → List Prefix → List Row → List Holders → Type 0
AreExact lists order rows sets =
    (f : Feature) (e : Prefix) → IsFound sets f e ↔ (r : Row) × Contains rows r × (r.prefix ≡ e) × Contains (row_features lists order r) f

-- the row is found by each feature that it has
abbrev pub IsWritten : List PathKept → List Prefix → Row → List Holders → Type 0
IsWritten lists order r sets = (f : Feature) → Contains (row_features lists order r) f → IsFound sets f r.prefix

-- the prefix had a row with the features that it has
abbrev pub HasStayed : List PathKept → List PathKept → List Prefix → List Prefix → List Row → Row → Type 0
HasStayed lists later order after rows r =
    (s : Row) × Contains rows s × (s.prefix ≡ r.prefix) × (row_features later after r ≡ row_features lists order s)
