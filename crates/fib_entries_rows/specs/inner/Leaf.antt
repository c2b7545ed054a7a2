-- Rows whose dependants alone differ. No contract of a public call rests on this.
use Rattle.std.specs.Prelude.{◌≡◌, ◌≢◌, ◌↔◌, ℕ, List, [], ◌∷◌, Contains}
use Rattle.fib_resolve.specs.Pairs.{pairs}
use Rattle.fib_addr.specs.Prefixes.{Prefix}
use Rattle.std.specs.Prelude.{◌++◌, ◌-◌, take, length, slice_set}
use Rattle.std.specs.List.{AllZip}
use Rattle.fib_reach.specs.Walks.{AllDiffer}
use Rattle.fib_entries_rows.specs.inner.Dependants.{IsWithout}
use Rattle.fib_entries_rows.specs.Rows.{Row}

-- the same row, but that the prefix may have come to its dependants or gone from them
pub record IsButFor (p : Prefix) (r s : Row) : Type 0 where
  pub prefix : s.prefix ≡ r.prefix
  pub pairs : s.pairs ≡ r.pairs
  pub looped : s.looped ≡ r.looped
  pub met : s.met ≡ r.met
  pub marked : s.marked ≡ r.marked
  pub rank : s.rank ≡ r.rank
  pub others : (d : Prefix) → p ≢ d → Contains s.dependants d ↔ Contains r.dependants d
  pub once : AllDiffer r.dependants → AllDiffer s.dependants

-- the row with other dependants
abbrev pub with_dependants : Row → List Prefix → Row
with_dependants r list =
    record { prefix = r.prefix; pairs = r.pairs; looped = r.looped; met = r.met; marked = r.marked; dependants = list; rank = r.rank }

abbrev pub pushed : Prefix → Row → Row
pushed p r = with_dependants r (r.dependants ++ p ∷ [])

abbrev pub popped : Row → Row
popped r = with_dependants r (take (length r.dependants - 1) r.dependants)

-- row by row, it went from the dependants of these, but for those
abbrev pub AreDetached : Prefix → List Prefix → List Prefix → List Row → List Row → Type 0
AreDetached p goals kept old new =
    AllZip (λ r s. IsButFor p r s
    × (Contains s.dependants p ↔ Contains r.dependants p × (Contains goals r.prefix → Contains kept r.prefix))) old new

-- the prefix went from the dependants of the row at that place
abbrev pub IsUnlinked : ℕ → Prefix → Row → List Row → List Row → Type 0
IsUnlinked place p r old new = (list : List Prefix) × IsWithout p r.dependants list × (new ≡ slice_set old place (with_dependants r list))
