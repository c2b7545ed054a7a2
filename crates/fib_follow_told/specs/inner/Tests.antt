-- What is compared of a row before a change with what its prefix has after it. No contract of a public call rests on this.
use Rattle.std.specs.Prelude.{ℕ, Bool, false, not, ◌&&◌, List, Option, Some, None}
use Rattle.std.specs.List.{list_all, list_any}
use Rattle.std.specs.Cmp.Lexicographic.{pointwise}
use mathlib.Core.Bool.{beq}
use Rattle.fib_resolve.specs.contracts.aims.MarkedPartialEq.TheImpl.{eq-value}
use Rattle.fib_resolve.specs.declared.aims.Marked.{Marked}
use Rattle.fib_resolve.specs.declared.pairs.Pair.{Pair}
use Rattle.fib_resolve.specs.declared.types.FibSource.{FibSource}
use Rattle.fib_entries_rows.specs.Known.{PathKept, row_of}
use Rattle.fib_entries_rows.specs.Rows.{Row}
use Rattle.fib_entries_rows.specs.inner.Compare.{is_that}
use Rattle.fib_follow_view.specs.Views.{Seen, made_of}
use Rattle.fib_follow_view.specs.declared.view.Anew.{Anew}
use Rattle.fib_follow_view.specs.inner.Told.{are_some}
use Rattle.fib_follow_told.specs.declared.body.Body.{Body}

-- the source with its list is one of the pairs
abbrev pub has_pair : List PathKept → List Pair → FibSource × ℕ → Bool
has_pair lists pairs p = list_any (λ x. is_that lists x.source x.paths p) pairs

-- the pair is one of the sources with its list
abbrev pub is_held : List PathKept → List (FibSource × ℕ) → Pair → Bool
is_held lists held x = list_any (is_that lists x.source x.paths) held

abbrev pub same_pairs : List PathKept → List (FibSource × ℕ) → List Pair → Bool
same_pairs lists held pairs = list_all (has_pair lists pairs) held && list_all (is_held lists held) pairs

abbrev pub same_bits : List Bool → List Bool → Bool
same_bits xs ys = pointwise beq xs ys

abbrev pub same_marks : List Marked → List Marked → Bool
same_marks xs ys = pointwise eq-value.it xs ys

-- the row's paths are marked as they are after the change
abbrev pub is_alike : Row → Body → Bool
is_alike r b = same_bits r.looped b.looped && (same_bits r.met b.met && same_marks r.marked b.marked)

-- whether a prefix is touched whose pairs stay
abbrev pub row_touched : Option Row → Body → Bool
row_touched None b = false
row_touched (Some r) b = not (is_alike r b)

-- whether one is that was made anew
abbrev pub made_touched : List PathKept → Option Row → List Pair → Body → Bool
made_touched lists None pairs b = are_some pairs
made_touched lists (Some r) pairs b = not (same_pairs lists r.pairs pairs && is_alike r b)

abbrev pub touched_at : List PathKept → Option Row → Option Anew → Body → Bool
touched_at lists found None b = row_touched found b
touched_at lists found (Some x) b = made_touched lists found x.pairs b

abbrev pub touched_by : Seen → Body → Bool
touched_by v b = touched_at v.before.lists (row_of v.before.rows b.prefix) (made_of v.changed b.prefix) b
