-- What each edit can make another: base pairs of which prefixes, next hops, neighbors.
use Rattle.std.specs.Prelude.{ℕ, ◌+◌, ◌-◌, ◌||◌, ◌&&◌, ◌==◌, not, Bool, false, List, [], ◌∷◌}
use Rattle.std.specs.List.{list_any}
use Rattle.std.specs.Set.{is_member}
use Rattle.fib_addr.specs.Prefixes.{Prefix, same_prefix, masked, host, size_of}
use Rattle.fib_resolve.specs.Pairs.{recursive_hops}
use Rattle.fib_resolve.specs.Tables.{is_route}
use Rattle.fib_resolve.specs.Edits.{edited, address_at, neighbor_at, source_of}
use Rattle.fib_resolve.specs.Refusals.{has_neighbor}
use Rattle.fib_resolve.specs.declared.types.Address.{Address}
use Rattle.fib_resolve.specs.declared.types.FibSource.{FibSource}
use Rattle.fib_resolve.specs.declared.types.Route.{Route}
use Rattle.fib_resolve.specs.declared.types.Tables.{Tables}
use Rattle.fib_resolve.specs.declared.types.Edit.{Edit}
use Rattle.fib_resolve.specs.declared.types.Edit.TheVariants as edits
use Rattle.fib_resolve_changes.specs.Sources.{affected}

-- the prefixes that an interface's address gives pairs: its prefix, itself, the lowest and the highest address of its prefix
abbrev pub own_prefixes : Address → List Prefix
own_prefixes a =
    masked a.addr a.len ∷ host a.addr ∷ host (masked a.addr a.len).bits ∷ host ((masked a.addr a.len).bits + size_of a.len - 1) ∷ []

abbrev pub is_own : Address → Prefix → Bool
is_own a q = is_member same_prefix (own_prefixes a) q

-- the prefixes whose base pairs an edit can change
abbrev pub own_of : Tables → Edit → Prefix → Bool
own_of S (edits.CreateInterface name) q = false
own_of S (edits.SetState name up) q = false
own_of S (edits.AddAddress name addr len) q = is_own (address_at S name addr len) q
own_of S (edits.DelAddress name addr len) q = is_own (address_at S name addr len) q
own_of S (edits.SetNeighbor name addr mac) q = false
own_of S (edits.DelNeighbor name addr) q = false
own_of S (edits.AddRoute prefix api specs) q = same_prefix prefix q
own_of S (edits.DelRoute prefix api specs) q = same_prefix prefix q

-- a recursive path of a route of that prefix and source has that next hop
abbrev pub has_hop : Prefix → FibSource → List Route → ℕ → Bool
has_hop prefix source routes a = list_any (λ r. is_route prefix source r && list_any (λ b. b == a) (recursive_hops r)) routes

-- the addresses that an edit can make a next hop, or none any more
abbrev pub hops_of : Tables → Edit → ℕ → Bool
hops_of S (edits.CreateInterface name) a = false
hops_of S (edits.SetState name up) a = false
hops_of S (edits.AddAddress name addr len) a = false
hops_of S (edits.DelAddress name addr len) a = false
hops_of S (edits.SetNeighbor name addr mac) a = false
hops_of S (edits.DelNeighbor name addr) a = false
hops_of S (edits.AddRoute prefix api specs) a =
    has_hop prefix (source_of api) S.routes a || has_hop prefix (source_of api) (edited S (edits.AddRoute prefix api specs)).routes a
hops_of S (edits.DelRoute prefix api specs) a =
    has_hop prefix (source_of api) S.routes a || has_hop prefix (source_of api) (edited S (edits.DelRoute prefix api specs)).routes a

-- the addresses that an edit can make a neighbor, or none any more: another MAC does neither
abbrev pub near_of : Tables → Edit → ℕ → Bool
near_of S (edits.CreateInterface name) a = false
near_of S (edits.SetState name up) a = false
near_of S (edits.AddAddress name addr len) a = false
near_of S (edits.DelAddress name addr len) a = false
near_of S (edits.SetNeighbor name addr mac) a = not (has_neighbor S (neighbor_at S name addr mac)) && (addr == a)
near_of S (edits.DelNeighbor name addr) a = addr == a
near_of S (edits.AddRoute prefix api specs) a = false
near_of S (edits.DelRoute prefix api specs) a = false

-- the prefixes whose entry the edit can make another
abbrev pub affected_by : Tables → Edit → Prefix → Bool
affected_by S e q = affected S (edited S e) (own_of S e) (λ a. hops_of S e a || near_of S e a) q
