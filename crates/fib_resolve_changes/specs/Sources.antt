-- What the pairs, the edges and the needs of a prefix depend on.
use Rattle.std.specs.Prelude.{◌≡◌, ℕ, ◌↔◌, ◌^◌, ◌<◌, ◌≤◌, ◌||◌, ◌&&◌, ◌==◌, not, nat_lt, List, Contains, flat_map, Bool, false}
use Rattle.fib_addr.specs.Prefixes.{Prefix, IsPrefix, host}
use Rattle.fib_resolve.specs.Pairs.{base_pairs, pairs, chosen, cover, attached_by, recursive_hops, short_prefixes}
use Rattle.fib_resolve.specs.declared.pairs.Pair.{Pair}
use Rattle.fib_resolve.specs.declared.types.Path.{Path}
use Rattle.fib_resolve.specs.declared.types.PathKind.TheVariants as kinds
use Rattle.fib_resolve.specs.declared.types.Address.{Address}
use Rattle.fib_resolve.specs.declared.types.Neighbor.{Neighbor}
use Rattle.fib_resolve.specs.declared.types.Route.{Route}
use Rattle.fib_resolve.specs.declared.types.Tables.{Tables}

-- the address is a neighbor on that interface, whatever its MAC
abbrev pub HasNeighbor : Tables → ℕ → ℕ → Type 0
HasNeighbor S i a = (n : Neighbor) × Contains S.neighbors n × (n.interface ≡ i) × (n.addr ≡ a)

-- the next hops of the recursive paths of all routes, whether chosen or hidden
abbrev pub all_hops : Tables → List ℕ
all_hops S = flat_map recursive_hops S.routes

-- the pairs of a prefix depend on these alone: its own base pairs; and for a host how it is attached, its neighbors, and whether it is a next hop
pub record SameSources (S T : Tables) (e : Prefix) : Type 0 where
  pub base : (x : Pair) → e ≡ x.prefix → Contains (base_pairs S) x ↔ Contains (base_pairs T) x
  pub attached : (a : ℕ) → e ≡ host a → attached_by S a ≡ attached_by T a
  pub neighbor : (a i : ℕ) → e ≡ host a → HasNeighbor S i a ↔ HasNeighbor T i a
  pub hop : (a : ℕ) → e ≡ host a → Contains (all_hops S) a ↔ Contains (all_hops T) a

abbrev pub SamePairs : Tables → Tables → Prefix → Type 0
SamePairs S T e = (x : Pair) → e ≡ x.prefix → Contains (pairs S) x ↔ Contains (pairs T) x

-- the entry has the same pairs and, where its path is Cover, the same cover: so its edges are the same
pub record SameEntry (S T : Tables) (e : Prefix) : Type 0 where
  pub pairs : SamePairs S T e
  pub cover : (p : Path) → Contains (chosen S e) p → p.kind ≡ kinds.Cover → cover S e.bits ≡ cover T e.bits

-- the test misses no prefix of which the base pairs differ
abbrev pub BaseCaught : Tables → Tables → (Prefix → Bool) → Type 0
BaseCaught S T own = (x : Pair) → own x.prefix ≡ false → Contains (base_pairs S) x ↔ Contains (base_pairs T) x

-- the test misses no address that is a next hop in one alone
abbrev pub HopsCaught : Tables → Tables → (ℕ → Bool) → Type 0
HopsCaught S T hops = (a : ℕ) → hops a ≡ false → Contains (all_hops S) a ↔ Contains (all_hops T) a

-- the test misses no address that is a neighbor of an interface in one alone
abbrev pub NeighborsCaught : Tables → Tables → (ℕ → Bool) → Type 0
NeighborsCaught S T near = (a i : ℕ) → near a ≡ false → HasNeighbor S i a ↔ HasNeighbor T i a

-- every prefix that can cover is one of the Rust type
abbrev pub ArePrefixes : Tables → Type 0
ArePrefixes S = (q : Prefix) → Contains (short_prefixes S) q → IsPrefix q

-- what the Rust types tell of the values in tables: addresses are below 2^32, and prefixes are prefixes
pub record HoldsPrefixes (S : Tables) : Type 0 where
  pub addresses : (a : Address) → Contains S.addresses a → (a.addr < 2 ^ 32) × (a.len ≤ 32)
  pub neighbors : (n : Neighbor) → Contains S.neighbors n → n.addr < 2 ^ 32
  pub routes : (r : Route) → Contains S.routes r → IsPrefix r.prefix
  pub hops : (a : ℕ) → Contains (all_hops S) a → a < 2 ^ 32

-- the entries that a change can make others: those of which base pairs differ, and hosts whose cover is such before or after, which are a
-- next hop or a neighbor in one alone, or are no address
abbrev pub affected : Tables → Tables → (Prefix → Bool) → (ℕ → Bool) → Prefix → Bool
affected S T own late e =
    own e || (e.len == 32) && (own (cover S e.bits) || (own (cover T e.bits) || (late e.bits || not (nat_lt e.bits (2 ^ 32)))))
