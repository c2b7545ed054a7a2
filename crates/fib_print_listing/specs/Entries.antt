-- show ip fib: a line for each effective entry.
use Rattle.std.specs.Prelude.{ℕ, ◌+◌, ◌||◌, ◌&&◌, ◌++◌, [], ◌∷◌, List, Bool, true, false, Option, Some, None, codes, filter, flat_map, map, if◌then◌else◌}
use Rattle.std.specs.List.{list_any}
use Rattle.fib_addr.specs.Prefixes.{Prefix, same_prefix}
use Rattle.fib_addr.specs.Texts.{prefix_text}
use Rattle.fib_resolve.specs.Keys.{same_source}
use Rattle.fib_resolve.specs.Pairs.{pairs, entries, chosen, cover}
use Rattle.fib_resolve.specs.Loops.{looped_at}
use Rattle.fib_resolve.specs.Forwarding.{usable_at}
use Rattle.fib_resolve.specs.declared.pairs.Pair.{Pair}
use Rattle.fib_resolve.specs.declared.types.FibSource.{FibSource}
use Rattle.fib_resolve.specs.declared.types.FibSource.TheVariants as sources
use Rattle.fib_resolve.specs.declared.types.Path.{Path}
use Rattle.fib_resolve.specs.declared.types.PathKind.{PathKind}
use Rattle.fib_resolve.specs.declared.types.PathKind.TheVariants as kinds
use Rattle.fib_resolve.specs.declared.types.Tables.{Tables}
use Rattle.fib_print.specs.Paths.{path_text}
use Rattle.fib_print_listing.specs.Order.{in_order, prefix_before, row_from, gap}

-- the sources, the best first
abbrev pub all_sources : List FibSource
all_sources =
    sources.Special ∷ sources.Interface ∷ sources.Api ∷ sources.Cli ∷ sources.Adjacency ∷ sources.RecursiveResolution ∷ sources.DefaultRoute ∷ []

abbrev pub source_text : FibSource → List ℕ
source_text sources.Special = codes "special"
source_text sources.Interface = codes "interface"
source_text sources.Api = codes "api"
source_text sources.Cli = codes "cli"
source_text sources.Adjacency = codes "adjacency"
source_text sources.RecursiveResolution = codes "recursive-resolution"
source_text sources.DefaultRoute = codes "default-route"

-- the entry has a pair of that source
abbrev pub has_source : List Pair → Prefix → FibSource → Bool
has_source xs e source = list_any (λ x. same_prefix x.prefix e && same_source x.source source) xs

-- all sources of the entry, the best first
abbrev pub sources_at : Tables → Prefix → List FibSource
sources_at S e = filter (has_source (pairs S) e) all_sources

abbrev pub is_drop : PathKind → Bool
is_drop kinds.Drop = true
is_drop kinds.Local = false
is_drop (kinds.Attached i) = false
is_drop (kinds.Hop a i) = false
is_drop (kinds.Recursive a) = false
is_drop kinds.Cover = false

-- the prefix of the cover stands behind the word
abbrev pub cover_at : Tables → Prefix → PathKind → Option Prefix
cover_at S e kinds.Cover = Some (cover S e.bits)
cover_at S e kinds.Drop = None
cover_at S e kinds.Local = None
cover_at S e (kinds.Attached i) = None
cover_at S e (kinds.Hop a i) = None
cover_at S e (kinds.Recursive a) = None

-- looped, or neither looped nor a Drop and not usable
abbrev pub mark_text : Bool → Bool → List ℕ
mark_text looped fine = if looped then codes " looped" else (if fine then [] else codes " unresolved")

-- the text of the entry's path at that place
unfoldable pub marked_text : Tables → Prefix → ℕ → Path → List ℕ
marked_text S e place p = path_text S (cover_at S e p.kind) p ++ mark_text (looped_at S e place) (is_drop p.kind || usable_at S e place)

-- the texts of paths that begin at that place
abbrev pub marked_from : Tables → Prefix → ℕ → List Path → List ℕ
marked_from S e place [] = []
marked_from S e place (p ∷ ps) = gap (codes ", ") place ++ marked_text S e place p ++ marked_from S e (place + 1) ps

unfoldable pub sources_text : Tables → Prefix → List ℕ
sources_text S e = row_from (codes "+") 0 (map source_text (sources_at S e))

unfoldable pub paths_text : Tables → Prefix → List ℕ
paths_text S e = marked_from S e 0 (chosen S e)

-- PREFIX SOURCES: PATHS
unfoldable pub entry_text : Tables → Prefix → List ℕ
entry_text S e = prefix_text e ++ codes " " ++ sources_text S e ++ codes ": " ++ paths_text S e ++ codes "\n"

-- the entries in order of their bits, then of their lengths
unfoldable pub fib_text : Tables → List ℕ
fib_text S = flat_map (entry_text S) (in_order prefix_before (entries S))
