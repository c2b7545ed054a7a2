-- How many objects the tables take: plies, entries and Hop ends.
use Rattle.std.specs.Prelude.{ℕ, Bool, ◌+◌, ◌*◌, ◌/◌, ◌==◌, ◌&&◌, List, [], ◌∷◌, map, flat_map, length, if◌then◌else◌}
use Rattle.std.specs.List.{range_with_len}
use Rattle.std.specs.Set.{unique_keys}
use Rattle.fib_addr.specs.Prefixes.{Prefix, masked, same_prefix}
use Rattle.fib_addr.specs.Longest.{everything}
use Rattle.fib_resolve.specs.Pairs.{entries, chosen}
use Rattle.fib_resolve.specs.declared.pairs.Adjacency.{Adjacency}
use Rattle.fib_resolve.specs.declared.types.PathKind.{PathKind}
use Rattle.fib_resolve.specs.declared.types.PathKind.TheVariants as kinds
use Rattle.fib_resolve.specs.declared.types.Tables.{Tables}

-- the plies on the way to a prefix, one for each four bits of its length, each as the prefix of its addresses
abbrev pub plies_of : Prefix → List Prefix
plies_of p = map (λ k. masked p.bits (4 * k)) (range_with_len 0 ((p.len + 3) / 4))

-- the ply of all addresses, which is always there, and those of the entries
unfoldable pub plies : Tables → List Prefix
plies S = unique_keys same_prefix (everything ∷ flat_map plies_of (entries S))

abbrev pub same_adjacency : Adjacency → Adjacency → Bool
same_adjacency x y = (x.interface == y.interface) && (x.next_hop == y.next_hop)

-- the Hop end of a path, usable or not; an Attached path has one where its entry is an address
abbrev pub kind_adjacency : Prefix → PathKind → List Adjacency
kind_adjacency e (kinds.Hop a i) = record { interface = i; next_hop = a } ∷ []
kind_adjacency e (kinds.Attached i) = if e.len == 32 then record { interface = i; next_hop = e.bits } ∷ [] else []
kind_adjacency e kinds.Drop = []
kind_adjacency e kinds.Local = []
kind_adjacency e (kinds.Recursive a) = []
kind_adjacency e kinds.Cover = []

abbrev pub adjacencies_of : Tables → Prefix → List Adjacency
adjacencies_of S e = flat_map (λ p. kind_adjacency e p.kind) (chosen S e)

-- the Hop ends of all chosen lists, each once
unfoldable pub adjacencies : Tables → List Adjacency
adjacencies S = unique_keys same_adjacency (flat_map (adjacencies_of S) (entries S))

unfoldable pub size : Tables → ℕ
size S = length (plies S) + length (entries S) + length (adjacencies S)
