-- What a marked list wants of a bucket: the list in the form in which a turn reads it.
use Rattle.std.specs.Prelude.{ℕ, Bool, ◌==◌, List, map, filter, flat_map, fold, min, option_to_list, slice_get, Option, Some, None}
use Rattle.fib_addr.specs.Prefixes.{Prefix}
use Rattle.fib_buckets.specs.Shares.{buckets}
use Rattle.fib_resolve.specs.declared.aims.Aim.{Aim}
use Rattle.fib_resolve.specs.declared.aims.Aim.TheVariants as aims
use Rattle.fib_resolve.specs.declared.aims.Marked.{Marked}
use Rattle.fib_resolve_changes.specs.Ranks.{is_usable_mark}
use Rattle.fib_resolve.specs.declared.types.End.TheVariants as answers

-- the least preference of a list, and the paths that have it
abbrev pub least : List Marked → ℕ
least ms = fold (λ n m. min n m.preference) 255 ms

abbrev pub of_least : List Marked → List Marked
of_least ms = filter (λ m. m.preference == least ms) ms

abbrev pub spread_marks : List Marked → List Marked
spread_marks ms = flat_map (λ j. option_to_list (slice_get ms j)) (buckets (map (λ m. m.weight) ms))

abbrev pub aim_of : Option Marked → Aim
aim_of None = aims.Ends answers.Drop
aim_of (Some m) = m.aim

-- what a bucket is for, by a marked list
unfoldable pub aim_by : (Prefix → Bool) → List Marked → ℕ → Aim
aim_by f ms k = aim_of (slice_get (spread_marks (of_least (filter (is_usable_mark f) ms))) k)
