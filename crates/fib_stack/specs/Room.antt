-- Room for the objects that turns take until the tables change again.
use Rattle.std.specs.Prelude.{◌≡◌, ℕ, ◌+◌, ◌≤◌, true, List, Contains, length}
use Rattle.std.specs.List.{AllByRecursion}
use Rattle.fib_addr.specs.Prefixes.{Prefix}
use Rattle.fib_reach.specs.Walks.{AllDiffer}
use Rattle.fib_resolve.specs.Aims.{marked_list}
use Rattle.fib_resolve.specs.Resolution.{hop_end}
use Rattle.fib_resolve.specs.Sizes.{plies_of, size}
use Rattle.fib_resolve.specs.declared.types.Tables.{Tables}
use Rattle.fib_resolve_changes.specs.Ranks.{has_entry}
use Rattle.fib_core.specs.StandsFor.{Thing, ply_of, balance_of, adjacency_of, IsCounted}
use Rattle.fib_core_promise.specs.Stack.{is_some}
use Rattle.fib_stack.specs.States.{State, has_hop}

-- an entry that is in the prefix table
abbrev pub IsSeated : Tables → State → Prefix → Type 0
IsSeated S s e = (has_entry S e ≡ true) × (is_some (s.objects.balance e) ≡ true)

-- what the tables' size counts is there, and stays until they change: the balance of an entry in the prefix table, a ply on the way to such an
-- entry, an adjacency that an entry lists and whose record it uses
abbrev pub IsMade : Tables → State → Thing → Type 0
IsMade S s (ply_of q) = (e : Prefix) × IsSeated S s e × Contains (plies_of e) q
IsMade S s (balance_of e) = IsSeated S s e
IsMade S s (adjacency_of x) =
    (e : Prefix) × (has_hop (marked_list S e) (hop_end S x.interface x.next_hop) ≡ true)
    × (s.holds e (hop_end S x.interface x.next_hop) ≡ true)

-- so many objects are free that all that the size counts can be made, and eight are free beside: no turn lacks one
pub record HasRoomLeft (S : Tables) (free : ℕ) (s : State) : Type 0 where
  pub made : List Thing
  pub apart : AllDiffer made
  pub counted : AllByRecursion (IsCounted S) made
  pub there : AllByRecursion (IsMade S s) made
  pub enough : size S + 8 ≤ free + length made

-- a step made things that the size counts, none of which was there, and took no other object
pub record Makes (S : Tables) (s t : State) (free left : ℕ) : Type 0 where
  pub made : List Thing
  pub apart : AllDiffer made
  pub counted : AllByRecursion (IsCounted S) made
  pub new : AllByRecursion (λ x. IsMade S s x → ⊥) made
  pub there : AllByRecursion (IsMade S t) made
  pub paid : free ≤ left + length made

-- what steps took they made, and what was made stays
pub record Took (S : Tables) (s t : State) (free left : ℕ) : Type 0 where
  pub makes : Makes S s t free left
  pub stays : (x : Thing) → IsMade S s x → IsMade S t x
