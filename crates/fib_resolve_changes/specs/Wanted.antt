-- What an entry wants of its buckets, by its marked list and by which entries forward.
use Rattle.std.specs.Prelude.{ℕ, Bool, ◌==◌, List, map, filter, flat_map, fold, min, option_to_list, slice_get, Option, Some, None}
use Rattle.fib_addr.specs.Prefixes.{Prefix}
use Rattle.fib_buckets.specs.Shares.{buckets}
use Rattle.fib_resolve.specs.declared.aims.Aim.{Aim}
use Rattle.fib_resolve.specs.declared.aims.Aim.TheVariants as aims
use Rattle.fib_resolve.specs.declared.aims.Marked.{Marked}
use Rattle.fib_resolve.specs.declared.types.End.TheVariants as answers
use Rattle.fib_resolve_changes.specs.Ranks.{is_usable_mark}

abbrev pub least_mark : List Marked → ℕ
least_mark ms = fold (λ n m. min n m.preference) 255 ms

abbrev pub of_least_mark : List Marked → List Marked
of_least_mark ms = filter (λ m. m.preference == least_mark ms) ms

-- the mark at each bucket
abbrev pub spread_marks : List Marked → List Marked
spread_marks ms = flat_map (λ j. option_to_list (slice_get ms j)) (buckets (map (λ m. m.weight) ms))

-- nowhere is the same as Drop
abbrev pub aim_of : Option Marked → Aim
aim_of None = aims.Ends answers.Drop
aim_of (Some m) = m.aim

-- what the bucket is for, where f says which entries forward
unfoldable pub aim_by : (Prefix → Bool) → List Marked → ℕ → Aim
aim_by f ms bucket = aim_of (slice_get (spread_marks (of_least_mark (filter (is_usable_mark f) ms))) bucket)
