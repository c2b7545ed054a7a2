-- What is known of the entries by their numbers.
use Rattle.std.specs.Prelude.{◌&&◌, ℕ, Bool, true, false, List, map, slice_get, Option, Some, None}
use Rattle.std.specs.Set.{is_member}
use Rattle.fib_addr.specs.Prefixes.{Prefix, same_prefix}
use Rattle.fib_resolve.specs.Pairs.{entries, chosen}
use Rattle.fib_resolve.specs.Loops.{looped_kind}
use Rattle.fib_resolve.specs.Forwarding.{usable_by}
use Rattle.fib_resolve.specs.declared.types.Path.{Path}
use Rattle.fib_resolve.specs.declared.types.Tables.{Tables}
use Rattle.fib_resolve_pairs.specs.inner.Edges.{goal_number}
use Rattle.test_plain.specs.declared.facts.PathFacts.{PathFacts}

abbrev pub is_entry : Tables → Prefix → Bool
is_entry S p = is_member same_prefix (entries S) p

-- what is known of a path of an entry: ready where it is usable if its target forwards
unfoldable pub facts_of_path : Tables → Prefix → Path → PathFacts
facts_of_path S e p = record { target = goal_number S e p.kind; looped = looped_kind S e p.kind; ready = usable_by S (is_entry S) e p }

unfoldable pub facts_of : Tables → Prefix → List PathFacts
facts_of S e = map (facts_of_path S e) (chosen S e)

unfoldable pub rows_of : Tables → List (List PathFacts)
rows_of S = map (facts_of S) (entries S)

abbrev pub marked : Option Bool → Bool
marked None = false
marked (Some b) = b

abbrev pub target_marked : List Bool → Option ℕ → Bool
target_marked marks None = true
target_marked marks (Some t) = marked (slice_get marks t)

-- the path is usable where the marks say which entries forward
abbrev pub usable_now : List Bool → PathFacts → Bool
usable_now marks x = x.ready && target_marked marks x.target
