-- What rows and entries that were made anew tell of a prefix. No contract of a public call rests on this.
use Rattle.std.specs.Prelude.{◌≡◌, ℕ, nat_lt, Bool, true, false, not, List, [], ◌∷◌, map, flat_map}
use Rattle.std.specs.Prelude.{option_to_list, Option, Some, None, if◌then◌else◌}
use Rattle.fib_addr.specs.Prefixes.{Prefix, host}
use Rattle.fib_cover.specs.Covers.{IsAscending}
use Rattle.fib_resolve.specs.Forwarding.{is_attached_list}
use Rattle.fib_resolve.specs.Keys.{is_derived_source}
use Rattle.fib_resolve.specs.declared.aims.Aim.{Aim}
use Rattle.fib_resolve.specs.declared.aims.Aim.TheVariants as aims
use Rattle.fib_resolve.specs.declared.aims.Marked.{Marked}
use Rattle.fib_resolve.specs.declared.pairs.Pair.{Pair}
use Rattle.fib_resolve.specs.declared.types.FibSource.{FibSource}
use Rattle.fib_resolve.specs.declared.types.Need.{Need}
use Rattle.fib_resolve.specs.declared.types.Need.TheVariants as needs
use Rattle.fib_resolve.specs.declared.types.Path.{Path}
use Rattle.fib_resolve.specs.declared.types.PathKind.{PathKind}
use Rattle.fib_resolve.specs.declared.types.PathKind.TheVariants as kinds
use Rattle.fib_entries_rows.specs.Known.{Known, PathKept, content_of, prefix_of, row_of}
use Rattle.fib_entries_rows.specs.Rows.{Row}
use Rattle.fib_entries_rows.specs.inner.Building.{AreHeld}
use Rattle.fib_follow_view.specs.Views.{Seen, made_of}
use Rattle.fib_follow_view.specs.declared.view.Anew.{Anew}

-- the rows stand in order, that of these prefixes, and name lists that are kept
pub record AreBefore (rows : List Row) (lists : List PathKept) (order : List Prefix) : Type 0 where
  pub held : AreHeld rows lists
  pub ordered : IsAscending (map prefix_of rows)
  pub same : order ≡ map prefix_of rows

abbrev pub is_row : Option Row → Bool
is_row None = false
is_row (Some r) = true

abbrev pub paths_in : Option (List Path) → List Path
paths_in None = []
paths_in (Some paths) = paths

-- the list of the first of these sources
abbrev pub list_first : List PathKept → List (FibSource × ℕ) → List Path
list_first lists [] = []
list_first lists (p ∷ ps) = paths_in (content_of lists p.1)

abbrev pub chosen_row : List PathKept → Option Row → List Path
chosen_row lists None = []
chosen_row lists (Some r) = list_first lists r.pairs

abbrev pub first_derived : List (FibSource × ℕ) → Bool
first_derived [] = false
first_derived (p ∷ ps) = is_derived_source p.0

abbrev pub derived_row : Option Row → Bool
derived_row None = false
derived_row (Some r) = first_derived r.pairs

-- where packets go on
abbrev pub aim_goal : Aim → Option Prefix
aim_goal (aims.On t) = Some t
aim_goal (aims.Ends end) = None

abbrev pub goals_row : Option Row → List (Option Prefix)
goals_row None = []
goals_row (Some r) = map (λ m. aim_goal m.aim) r.marked

-- the entry at which packets go on, where it is a cover: all others are hosts
abbrev pub cover_aim : Aim → Option Prefix
cover_aim (aims.On t) = if nat_lt t.len 32 then Some t else None
cover_aim (aims.Ends end) = None

abbrev pub first_of : Option Prefix → Option Prefix → Option Prefix
first_of (Some c) o = Some c
first_of None o = o

abbrev pub cover_in : List Marked → Option Prefix
cover_in [] = None
cover_in (m ∷ ms) = first_of (cover_aim m.aim) (cover_in ms)

abbrev pub cover_row : Option Row → Option Prefix
cover_row None = None
cover_row (Some r) = cover_in r.marked

-- the list of the first of these pairs
abbrev pub first_paths : List Pair → List Path
first_paths [] = []
first_paths (x ∷ xs) = x.paths

abbrev pub derived_pairs : List Pair → Bool
derived_pairs [] = false
derived_pairs (x ∷ xs) = is_derived_source x.source

abbrev pub are_some : List Pair → Bool
are_some [] = false
are_some (x ∷ xs) = true

-- where a path leads that an entry with that cover has
abbrev pub kind_goal : Prefix → PathKind → Option Prefix
kind_goal cover (kinds.Recursive a) = Some (host a)
kind_goal cover kinds.Cover = Some cover
kind_goal cover kinds.Drop = None
kind_goal cover kinds.Local = None
kind_goal cover (kinds.Attached i) = None
kind_goal cover (kinds.Hop a i) = None

-- what is told of a prefix by the entry that was made anew, or else by its row of before
abbrev pub entry_by : Known → Prefix → Option Anew → Bool
entry_by k e None = is_row (row_of k.rows e)
entry_by k e (Some x) = are_some x.pairs

abbrev pub chosen_by : Known → Prefix → Option Anew → List Path
chosen_by k e None = chosen_row k.lists (row_of k.rows e)
chosen_by k e (Some x) = first_paths x.pairs

abbrev pub derived_by : Known → Prefix → Option Anew → Bool
derived_by k e None = derived_row (row_of k.rows e)
derived_by k e (Some x) = derived_pairs x.pairs

abbrev pub goals_by : Known → Prefix → Option Anew → List (Option Prefix)
goals_by k e None = goals_row (row_of k.rows e)
goals_by k e (Some x) = map (λ p. kind_goal x.cover p.kind) (first_paths x.pairs)

abbrev pub cover_by : Known → Prefix → Option Anew → Option Prefix
cover_by k e None = cover_row (row_of k.rows e)
cover_by k e (Some x) = Some x.cover

abbrev pub entry_in : Seen → Prefix → Bool
entry_in v e = entry_by v.before e (made_of v.changed e)

abbrev pub chosen_in : Seen → Prefix → List Path
chosen_in v e = chosen_by v.before e (made_of v.changed e)

abbrev pub derived_in : Seen → Prefix → Bool
derived_in v e = derived_by v.before e (made_of v.changed e)

abbrev pub goals_in : Seen → Prefix → List (Option Prefix)
goals_in v e = goals_by v.before e (made_of v.changed e)

abbrev pub met_in : Seen → Need → ℕ → Bool
met_in v needs.Any a = true
met_in v needs.Host a = not (derived_in v (host a))
met_in v needs.Attached a = is_attached_list (chosen_in v (host a))

-- where the prefix leads, after the change and before it
abbrev pub next_in : Seen → Prefix → List Prefix
next_in v e = flat_map option_to_list (goals_in v e)

abbrev pub next_before : Seen → Prefix → List Prefix
next_before v e = flat_map option_to_list (goals_row (row_of v.before.rows e))
