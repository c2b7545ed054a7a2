-- An upper bound on the size of tables that edits keep up to date. No contract of a public call rests on this.
use Rattle.std.specs.Prelude.{◌≤◌, ℕ, ◌+◌, ◌-◌, ◌*◌, ◌/◌, ◌^◌, Bool, ◌==◌, ◌&&◌, not, nat_lt, min, List, [], ◌∷◌, ◌++◌, map, flat_map}
use Rattle.std.specs.Prelude.{length, count_by, if◌then◌else◌}
use Rattle.std.specs.List.{range_with_len}
use Rattle.std.specs.Set.{distinct_count}
use Rattle.fib_addr.specs.Longest.{everything}
use Rattle.fib_addr.specs.Prefixes.{Prefix, same_prefix, masked, host, size_of}
use Rattle.fib_resolve.specs.Pairs.{fixed_pairs, prefix_of}
use Rattle.fib_resolve.specs.Sizes.{plies_of, kind_adjacency, same_adjacency}
use Rattle.fib_resolve.specs.declared.pairs.Adjacency.{Adjacency}
use Rattle.fib_resolve.specs.declared.types.Edit.{Edit}
use Rattle.fib_resolve.specs.declared.types.Edit.TheVariants as edits
use Rattle.fib_resolve_changes.specs.Sources.{all_hops}
use Rattle.fib_resolve.specs.declared.types.Address.{Address}
use Rattle.fib_resolve.specs.declared.types.Neighbor.{Neighbor}
use Rattle.fib_resolve.specs.declared.types.Route.{Route}
use Rattle.fib_resolve.specs.declared.types.Tables.{Tables}

-- what an interface's address can make effective: its prefix, itself, and the lowest and the highest address of its prefix
abbrev pub own_prefixes : Address → List Prefix
own_prefixes a =
    masked a.addr a.len ∷
    host a.addr ∷
    host (masked a.addr a.len).bits ∷
    host ((masked a.addr a.len).bits + size_of a.len - 1) ∷ []

abbrev pub prefix_of_route : Route → Prefix
prefix_of_route r = r.prefix

abbrev pub host_of : Neighbor → Prefix
host_of n = host n.addr

-- every prefix that can be effective where recursive paths have these next hops
unfoldable pub candidates : Tables → List ℕ → List Prefix
candidates S hops =
    map prefix_of fixed_pairs ++ flat_map own_prefixes S.addresses ++ map prefix_of_route S.routes ++ map host_of S.neighbors ++ map host hops

abbrev pub depth_of : Prefix → ℕ
depth_of p = (p.len + 3) / 4

-- the k-th ply on the way to a prefix lies on the way to the other too
abbrev pub is_shared : Prefix → Prefix → ℕ → Bool
is_shared p q k = nat_lt k (depth_of q) && ((p.bits / size_of (4 * k)) == (q.bits / size_of (4 * k)))

-- the entry and the plies of the first that the second doesn't have
unfoldable pub left_behind : Prefix → Prefix → ℕ
left_behind p q = (if same_prefix p q then 0 else 1) + count_by (λ k. not (is_shared p q k)) (range_with_len 0 (depth_of p))

-- the entries and plies of prefixes, where each counts unless the next prefix has it
unfoldable pub steps : Prefix → List Prefix → ℕ
steps p [] = 1 + depth_of p
steps p (q ∷ qs) = left_behind p q + steps q qs

-- the Hop ends of a route's paths, whether or not it is the best
abbrev pub route_ends : Route → List Adjacency
route_ends r = flat_map (λ p. kind_adjacency r.prefix p.kind) r.paths

abbrev pub neighbor_end : Neighbor → Adjacency
neighbor_end n = record { interface = n.interface; next_hop = n.addr }

unfoldable pub ends : Tables → List Adjacency
ends S = flat_map route_ends S.routes ++ map neighbor_end S.neighbors

abbrev pub same_number : ℕ → ℕ → Bool
same_number a b = a == b

-- every prefix that can be effective, and that of all addresses
unfoldable pub possible : Tables → List Prefix
possible S = everything ∷ candidates S (all_hops S)

-- a number that the size doesn't exceed: everything counts that an address, a route, a neighbor or a next hop can make, whatever covers and sources
-- say; so an edit raises it by at most what itself can make
unfoldable pub allowance : Tables → ℕ
allowance S =
    1 + distinct_count same_prefix (possible S) + distinct_count same_prefix (flat_map plies_of (possible S)) +
    (distinct_count same_adjacency (ends S) + length S.addresses + distinct_count same_number (all_hops S))

-- by how much an edit can raise it: a prefix by itself and its plies, a host by 9, a path by 1 and a next hop's host
unfoldable pub growth : Edit → ℕ
growth (edits.AddAddress name addr len) = 37
growth (edits.SetNeighbor name addr mac) = 10
growth (edits.AddRoute prefix api specs) = 1 + depth_of prefix + 10 * length specs
growth (edits.DelRoute prefix api specs) = 1 + depth_of prefix
growth (edits.CreateInterface name) = 0
growth (edits.SetState name up) = 0
growth (edits.DelAddress name addr len) = 0
growth (edits.DelNeighbor name addr) = 0

-- at least that number, unless that is beyond all that a usize can tell
abbrev pub IsBoundFor : ℕ → ℕ → Type 0
IsBoundFor bound n = min n (2 ^ 64 - 1) ≤ bound
