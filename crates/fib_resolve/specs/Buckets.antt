-- The sixteen wanted paths of an entry.
use Rattle.std.specs.Prelude.{ℕ, ◌==◌, List, map, filter, flat_map, fold, min, slice_get, option_to_list, length, All, ◌≤◌, ◌<◌}
use Rattle.fib_addr.specs.Prefixes.{Prefix}
use Rattle.fib_buckets.specs.Shares.{buckets}
use Rattle.fib_resolve.specs.Pairs.{chosen}
use Rattle.fib_resolve.specs.Forwarding.{usable}
use Rattle.fib_resolve.specs.declared.types.Path.{Path}
use Rattle.fib_resolve.specs.declared.types.Tables.{Tables}

abbrev pub least_preference : List Path → ℕ
least_preference ps = fold (λ m p. min m p.preference) 255 ps

abbrev pub of_least_preference : List Path → List Path
of_least_preference ps = filter (λ p. p.preference == least_preference ps) ps

-- the usable paths of least preference
unfoldable pub used : Tables → Prefix → List Path
used S e = of_least_preference (filter (usable S e) (chosen S e))

-- the path at each bucket
abbrev pub spread : List Path → List Path
spread ps = flat_map (λ j. option_to_list (slice_get ps j)) (buckets (map (λ p. p.weight) ps))

-- sixteen paths, or none where the entry does not forward
unfoldable pub wanted : Tables → Prefix → List Path
wanted S e = spread (used S e)

-- a list that sixteen buckets can be shared among: at most 16 paths, each of a weight of at least 1
pub record IsShort (ps : List Path) : Type 0 where
  pub few : length ps ≤ 16
  pub weighted : All (λ p. 0 < p.weight) ps
