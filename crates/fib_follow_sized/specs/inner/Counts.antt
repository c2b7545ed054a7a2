-- What of the tables can come or go with the changed entries, counted. No contract of a public call rests on this.
use Rattle.std.specs.Prelude.{ℕ, ◌+◌, Bool, not, List, [], ◌∷◌, ◌++◌, flat_map, filter, length, if◌then◌else◌}
use Rattle.std.specs.Set.{is_member, unique_keys}
use Rattle.fib_addr.specs.Prefixes.{Prefix, same_prefix}
use Rattle.fib_resolve.specs.Sizes.{kind_adjacency, plies_of, same_adjacency}
use Rattle.fib_resolve.specs.declared.pairs.Adjacency.{Adjacency}
use Rattle.fib_entries_rows.specs.Known.{row_of}
use Rattle.fib_follow_view.specs.Views.{Seen}
use Rattle.fib_follow_view.specs.declared.view.Anew.{Anew}
use Rattle.fib_follow_view.specs.inner.Told.{chosen_in, chosen_row, entry_in, is_row}
use Rattle.fib_follow_sized.specs.inner.Below.{is_ply, was_ply}

abbrev pub was_entry : Seen → Prefix → Bool
was_entry v e = is_row (row_of v.before.rows e)

-- the prefix is an entry before or after, and not both
abbrev pub moves : Seen → Prefix → Bool
moves v e = if was_entry v e then not (entry_in v e) else entry_in v e

abbrev pub one_if : Bool → Prefix → List Prefix
one_if b e = if b then e ∷ [] else []

abbrev pub moving : Seen → Anew → List Prefix
moving v x = one_if (moves v x.prefix) x.prefix

-- the entries that come or go, and the plies on the way to them
abbrev pub moved_of : Seen → List Prefix
moved_of v = flat_map (moving v) v.changed

abbrev pub on_way_of : List Prefix → List Prefix
on_way_of moved = unique_keys same_prefix (flat_map plies_of moved)

-- the Hop ends of a prefix, before and after
abbrev pub ends_before : Seen → Prefix → List Adjacency
ends_before v e = flat_map (λ p. kind_adjacency e p.kind) (chosen_row v.before.lists (row_of v.before.rows e))

abbrev pub ends_after : Seen → Prefix → List Adjacency
ends_after v e = flat_map (λ p. kind_adjacency e p.kind) (chosen_in v e)

abbrev pub ends_were : Seen → List Adjacency
ends_were v = flat_map (λ x. ends_before v x.prefix) v.changed

abbrev pub ends_are : Seen → List Adjacency
ends_are v = flat_map (λ x. ends_after v x.prefix) v.changed

-- how many are there: their own, and those of the others that are held
abbrev pub ends_count : List Adjacency → List Adjacency → List Adjacency → ℕ
ends_count own others held = length (unique_keys same_adjacency (filter (is_member same_adjacency held) others ++ own))

-- how many objects of those that can come or go are there before, and after
abbrev pub less_of : Seen → List Adjacency → ℕ
less_of v held =
    length (filter (was_ply v.before.rows) (on_way_of (moved_of v))) + length (filter (was_entry v) (moved_of v))
    + ends_count (ends_were v) (ends_are v) held

abbrev pub more_of : Seen → List Adjacency → ℕ
more_of v held =
    length (filter (is_ply v v.before.rows) (on_way_of (moved_of v))) + length (filter (entry_in v) (moved_of v))
    + ends_count (ends_are v) (ends_were v) held
