-- What changes name: the prefixes whose base pairs, and the addresses whose next hops or neighbors, can be others.
use Rattle.std.specs.Prelude.{ℕ, ◌||◌, ◌==◌, Bool, false, List}
use Rattle.std.specs.List.{list_any}
use Rattle.fib_addr.specs.Prefixes.{Prefix, same_prefix}
use Rattle.fib_resolve.specs.declared.types.Tables.{Tables}
use Rattle.fib_resolve_changes.specs.Affected.{is_own, has_hop}
use Rattle.fib_resolve_changes.specs.declared.change.Change.{Change}
use Rattle.fib_resolve_changes.specs.declared.change.Change.TheVariants as changes

abbrev pub own_at : Prefix → Change → Bool
own_at q (changes.Flag i) = false
own_at q (changes.Address a) = is_own a q
own_at q (changes.Neighbor i a) = false
own_at q (changes.Route prefix source) = same_prefix prefix q

abbrev pub hop_at : Tables → Tables → ℕ → Change → Bool
hop_at S T a (changes.Flag i) = false
hop_at S T a (changes.Address b) = false
hop_at S T a (changes.Neighbor i b) = false
hop_at S T a (changes.Route prefix source) = has_hop prefix source S.routes a || has_hop prefix source T.routes a

abbrev pub near_at : ℕ → Change → Bool
near_at a (changes.Flag i) = false
near_at a (changes.Address b) = false
near_at a (changes.Neighbor i b) = b == a
near_at a (changes.Route prefix source) = false

-- one of the changes can make base pairs of the prefix others
abbrev pub own_in : List Change → Prefix → Bool
own_in list q = list_any (own_at q) list

-- a next hop of the old or the new list of a route that changes
abbrev pub hop_in : List Change → Tables → Tables → ℕ → Bool
hop_in list S T a = list_any (hop_at S T a) list

abbrev pub near_in : List Change → ℕ → Bool
near_in list a = list_any (near_at a) list
