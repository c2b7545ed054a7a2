-- The entries as they are after a change: those that were made anew, and beside them those of before.
use Rattle.std.specs.Prelude.{◌≡◌, ◌↔◌, ◌<◌, Bool, List, [], ◌∷◌, map, find, Contains, Option}
use Rattle.std.specs.List.{AllByRecursion}
use Rattle.std.specs.Set.{is_member}
use Rattle.fib_addr.specs.Prefixes.{Prefix, same_prefix}
use Rattle.fib_resolve.specs.Keys.{source_rank}
use Rattle.fib_resolve.specs.Pairs.{pairs, cover}
use Rattle.fib_resolve.specs.Tables.{IsSound}
use Rattle.fib_resolve.specs.declared.pairs.Pair.{Pair}
use Rattle.fib_resolve.specs.declared.types.Tables.{Tables}
use Rattle.fib_resolve_changes.specs.Causes.{IsCaught}
use Rattle.fib_entries_rows.specs.Known.{Known, StandsFor}
use Rattle.fib_follow_view.specs.declared.view.Anew.{Anew}

-- the entries before the change, and those that were made anew
pub record Seen : Type 0 where
  pub before : Known
  pub changed : List Anew

abbrev pub anew_prefix : Anew → Prefix
anew_prefix x = x.prefix

-- what was made anew of the prefix
abbrev pub made_of : List Anew → Prefix → Option Anew
made_of changed e = find (λ x. same_prefix e x.prefix) changed

abbrev pub is_changed : List Anew → Prefix → Bool
is_changed changed e = is_member same_prefix (map anew_prefix changed) e

-- each pair is of a better source than those behind it
abbrev pub AreBetterFirst : List Pair → Type 0
AreBetterFirst [] = Unit {0}
AreBetterFirst (x ∷ xs) = AllByRecursion (λ y. source_rank x.source < source_rank y.source) xs × AreBetterFirst xs

-- an entry that was made anew has the prefix's pairs of the tables, the best first, and a host its cover
pub record IsMade (T : Tables) (x : Anew) : Type 0 where
  pub better_first : AreBetterFirst x.pairs
  pub pairs : (y : Pair) → Contains x.pairs y ↔ Contains (pairs T) y × (x.prefix ≡ y.prefix)
  pub cover : x.prefix.len ≡ 32 → x.cover ≡ cover T x.prefix.bits

-- the tables before a change, for which the entries stand, and those after it: what was made anew is of these, and each entry beside it is
-- the same in both
pub record IsAfter (v : Seen) (S T : Tables) : Type 0 where
  pub stands : StandsFor v.before S
  pub sound : IsSound T
  pub made : (x : Anew) → Contains v.changed x → IsMade T x
  pub caught : IsCaught S T (is_changed v.changed)
