-- What is compared of a row with what is made anew of its prefix. No contract of a public call rests on this.
use Rattle.std.specs.Prelude.{ℕ, Bool, true, false, not, ◌&&◌, ◌||◌, List, [], ◌∷◌, nat_lt, Option, Some, None}
use Rattle.std.specs.List.{list_all}
use Rattle.fib_addr.specs.Prefixes.{Prefix, same_prefix}
use Rattle.fib_resolve.specs.declared.aims.Aim.{Aim}
use Rattle.fib_resolve.specs.declared.aims.Aim.TheVariants as aims
use Rattle.fib_resolve.specs.declared.pairs.Pair.{Pair}
use Rattle.fib_resolve.specs.declared.types.FibSource.{FibSource}
use Rattle.fib_resolve.specs.declared.types.Path.{Path}
use Rattle.fib_entries_rows.specs.Known.{PathKept, content_of}
use Rattle.fib_entries_rows.specs.Rows.{Row}
use Rattle.fib_entries_rows.specs.inner.Compare.{is_that}
use Rattle.fib_follow_pairs.specs.inner.Parts.{paths_in}
use Rattle.fib_follow_pairs.specs.declared.fresh.Fresh.{Fresh}
use Rattle.fib_follow_pairs.specs.declared.fresh.Fresh.TheVariants as made
use Rattle.fib_follow_pairs.specs.declared.fresh.FreshEntry.{FreshEntry}

-- the sources with their lists are those pairs, in order
abbrev pub all_held : List PathKept → List (FibSource × ℕ) → List Pair → Bool
all_held lists [] [] = true
all_held lists [] (x ∷ xs) = false
all_held lists (p ∷ ps) [] = false
all_held lists (p ∷ ps) (x ∷ xs) = is_that lists x.source x.paths p && all_held lists ps xs

abbrev pub is_that_cover : Option Prefix → Prefix → Bool
is_that_cover None q = false
is_that_cover (Some c) q = same_prefix c q

-- a path that leads to a prefix shorter than 32, as Cover alone does, leads to that one
abbrev pub aim_stays : Option Prefix → Aim → Bool
aim_stays cover (aims.Ends end) = true
aim_stays cover (aims.On q) = not (nat_lt q.len 32) || is_that_cover cover q

abbrev pub entry_stays : List PathKept → Row → FreshEntry → Bool
entry_stays lists r f = all_held lists r.pairs f.pairs && list_all (λ m. aim_stays f.cover m.aim) r.marked

abbrev pub row_stays : List PathKept → Option Row → Fresh → Bool
row_stays lists None (made.Gone e) = true
row_stays lists None (made.Entry f) = false
row_stays lists (Some r) (made.Gone e) = false
row_stays lists (Some r) (made.Entry f) = entry_stays lists r f

-- the chosen list
abbrev pub paths_made : Fresh → List Path
paths_made (made.Entry f) = paths_in f.pairs
paths_made (made.Gone e) = []

abbrev pub content_or : Option (List Path) → List Path
content_or None = []
content_or (Some paths) = paths

abbrev pub paths_held : List PathKept → List (FibSource × ℕ) → List Path
paths_held lists [] = []
paths_held lists (p ∷ ps) = content_or (content_of lists p.1)
