-- A rank that falls along the edges that are left without looped paths, and what a restack in that order rests on.
use Rattle.std.specs.Prelude.{◌≡◌, ◌<◌, ℕ, Bool, true, false, ◌&&◌, List, []}
use Rattle.std.specs.List.{list_any}
use Rattle.std.specs.Set.{is_member}
use Rattle.fib_addr.specs.Prefixes.{Prefix, same_prefix}
use Rattle.fib_resolve.specs.Aims.{marked_list}
use Rattle.fib_resolve.specs.Pairs.{entries, chosen}
use Rattle.fib_resolve.specs.Loops.{is_kept, kind_targets, Kept}
use Rattle.fib_resolve.specs.Forwarding.{forwards}
use Rattle.fib_resolve.specs.declared.aims.Aim.{Aim}
use Rattle.fib_resolve.specs.declared.aims.Aim.TheVariants as aims
use Rattle.fib_resolve.specs.declared.aims.Marked.{Marked}
use Rattle.fib_resolve.specs.declared.types.Tables.{Tables}

-- where f says which entries forward: the entry at which packets go on, if there is one, does
abbrev pub leads_on : (Prefix → Bool) → Aim → Bool
leads_on f (aims.Ends end) = true
leads_on f (aims.On t) = f t

-- the path is usable where f says which entries forward
abbrev pub is_usable_mark : (Prefix → Bool) → Marked → Bool
is_usable_mark f m = m.counts && leads_on f m.aim

abbrev pub is_aimed_at : Prefix → Aim → Bool
is_aimed_at t (aims.Ends end) = false
is_aimed_at t (aims.On u) = same_prefix t u

-- a path that counts is aimed at that entry
abbrev pub counts_on : List Marked → Prefix → Bool
counts_on ms t = list_any (λ m. m.counts && is_aimed_at t m.aim) ms

-- the first is woken where the second begins or ceases to forward: it has an edge to it, by Cover or by a recursive path that isn't looped
abbrev pub wakes : Tables → Prefix → Prefix → Bool
wakes S e t = list_any (λ p. is_kept S e p.kind && is_member same_prefix (kind_targets S e p.kind) t) (chosen S e)

abbrev pub has_entry : Tables → Prefix → Bool
has_entry S e = is_member same_prefix (entries S) e

-- each edge that is left without looped paths leads to a smaller rank
abbrev pub Falls : Tables → (Prefix → ℕ) → Type 0
Falls S rank = (e t : Prefix) → Kept S e t → rank t < rank e

-- what a restack of entries by rank rests on
pub record IsRanked (S : Tables) (rank : Prefix → ℕ) : Type 0 where
  -- an entry forwards exactly where one of its paths is usable
  pub forwarding : (e : Prefix) → forwards S e ≡ list_any (is_usable_mark (forwards S)) (marked_list S e)
  -- what wakes an entry is an entry of a smaller rank
  pub falls : (e t : Prefix) → wakes S e t ≡ true → (has_entry S t ≡ true) × (rank t < rank e)
  -- an entry is woken by each entry on which it counts
  pub woken : (e t : Prefix) → counts_on (marked_list S e) t ≡ true → wakes S e t ≡ true
  pub effective : (e t : Prefix) → wakes S e t ≡ true → has_entry S e ≡ true
  pub absent : (e : Prefix) → has_entry S e ≡ false → marked_list S e ≡ []
