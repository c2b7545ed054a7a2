-- What one change names, by rows and tables. No contract of a public call rests on this.
use Rattle.std.specs.Prelude.{ℕ, ◌||◌, Bool, true, false, nat_le, List, [], ◌∷◌, Option, Some, None, if◌then◌else◌}
use Rattle.std.specs.List.{list_any}
use Rattle.fib_addr.specs.Prefixes.{Prefix, host, same_prefix}
use Rattle.fib_resolve.specs.Edits.{paths_at}
use Rattle.fib_resolve.specs.Keys.{same_source}
use Rattle.fib_resolve.specs.Pairs.{recursive_of}
use Rattle.fib_resolve.specs.declared.types.FibSource.{FibSource}
use Rattle.fib_resolve.specs.declared.types.Path.{Path}
use Rattle.fib_resolve.specs.declared.types.Tables.{Tables}
use Rattle.fib_resolve_changes.specs.Affected.{is_own}
use Rattle.fib_resolve_changes.specs.declared.change.Change.{Change}
use Rattle.fib_resolve_changes.specs.declared.change.Change.TheVariants as changes
use Rattle.fib_entries_rows.specs.Known.{Known, PathKept, content_of, row_of}
use Rattle.fib_entries_rows.specs.Rows.{Row}
use Rattle.fib_follow_pairs.specs.inner.Compared.{content_or}

abbrev pub is_hop : Option ℕ → Prefix → Bool
is_hop None q = false
is_hop (Some a) q = same_prefix q (host a)

-- the host of a next hop of the paths
abbrev pub are_hops : List Path → Prefix → Bool
are_hops ps q = list_any (λ p. is_hop (recursive_of p) q) ps

-- the list of the first with that source
abbrev pub list_held : List PathKept → List (FibSource × ℕ) → FibSource → List Path
list_held lists [] s = []
list_held lists (p ∷ ps) s = if same_source p.0 s then content_or (content_of lists p.1) else list_held lists ps s

abbrev pub list_in : List PathKept → Option Row → FibSource → List Path
list_in lists None s = []
list_in lists (Some r) s = list_held lists r.pairs s

-- the list that the prefix had of that source
abbrev pub old_paths : Known → Prefix → FibSource → List Path
old_paths v p s = list_in v.lists (row_of v.rows p) s

abbrev pub names : Known → Tables → Change → Prefix → Bool
names v T (changes.Flag i) q = false
names v T (changes.Address a) q = is_own a q
names v T (changes.Neighbor i a) q = same_prefix q (host a)
names v T (changes.Route p s) q = same_prefix q p || (are_hops (old_paths v p s) q || are_hops (paths_at p s T.routes) q)

abbrev pub is_short_change : Change → Bool
is_short_change (changes.Address a) = nat_le a.len 32
is_short_change (changes.Flag i) = true
is_short_change (changes.Neighbor i a) = true
is_short_change (changes.Route p s) = true

-- the host of a next hop that the named route has
abbrev pub leads : Tables → Change → Prefix → Bool
leads T (changes.Flag i) q = false
leads T (changes.Address a) q = false
leads T (changes.Neighbor i a) q = false
leads T (changes.Route p s) q = are_hops (paths_at p s T.routes) q
