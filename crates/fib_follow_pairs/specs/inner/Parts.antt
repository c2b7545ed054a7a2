-- The base pairs of a prefix, source by source. No contract of a public call rests on this.
use Rattle.std.specs.Prelude.{◌≡◌, ◌↔◌, ◌<◌, ◌≤◌, ◌&&◌, ◌||◌, ◌==◌, ℕ, Bool, true, false, List, [], ◌∷◌, ◌++◌, Contains, filter, find}
use Rattle.std.specs.Prelude.{length, nat_lt, Option, Some, None, if◌then◌else◌}
use Rattle.std.specs.List.{AllByRecursion, list_any}
use Rattle.fib_addr.specs.Longest.{everything}
use Rattle.fib_addr.specs.Prefixes.{Prefix, same_prefix, masked, host}
use Rattle.fib_resolve.specs.Edits.{paths_at}
use Rattle.fib_resolve.specs.Keys.{source_rank}
use Rattle.fib_resolve.specs.Pairs.{one, edge_addresses, is_address, derived_kind, is_interface, recursive_of}
use Rattle.fib_resolve.specs.Resolution.{mac_of}
use Rattle.fib_resolve.specs.declared.pairs.Pair.{Pair}
use Rattle.fib_resolve.specs.declared.types.Address.{Address}
use Rattle.fib_resolve.specs.declared.types.FibSource.{FibSource}
use Rattle.fib_resolve.specs.declared.types.FibSource.TheVariants as sources
use Rattle.fib_resolve.specs.declared.types.Path.{Path}
use Rattle.fib_resolve.specs.declared.types.PathKind.TheVariants as kinds
use Rattle.fib_resolve.specs.declared.types.Tables.{Tables}
use Rattle.fib_resolve_changes.specs.Affected.{is_own}
use Rattle.fib_follow_view.specs.Views.{AreBetterFirst}
use Rattle.fib_follow_pairs.specs.declared.host.Host.{Host}

-- the prefix's pair of that source among all these, if there is one
pub record IsPart (all : List Pair) (e : Prefix) (s : FibSource) (xs : List Pair) : Type 0 where
  pub single : length xs ≤ 1
  pub sources : AllByRecursion (λ x. s ≡ x.source) xs
  pub are : (x : Pair) → Contains xs x ↔ Contains all x × (e ≡ x.prefix) × (s ≡ x.source)

-- its pairs of the first sources, the best first
pub record AreFirst (all : List Pair) (e : Prefix) (done : ℕ) (xs : List Pair) : Type 0 where
  pub by_rank : AreBetterFirst xs
  pub below : AllByRecursion (λ x. source_rank x.source < done) xs
  pub are : (x : Pair) → Contains xs x ↔ Contains all x × (e ≡ x.prefix) × (source_rank x.source < done)

abbrev pub special_prefixes : List Prefix
special_prefixes = host 0 ∷ record { bits = 0xe0000000; len = 4 } ∷ record { bits = 0xf0000000; len = 4 } ∷ host 0xffffffff ∷ []

abbrev pub is_special : Prefix → Bool
is_special p = list_any (same_prefix p) special_prefixes

abbrev pub special_at : Prefix → List Pair
special_at p = if is_special p then one p sources.Special kinds.Drop ∷ [] else []

-- an address shorter than 32 has that prefix
abbrev pub is_connected : Prefix → Address → Bool
is_connected p a = nat_lt a.len 32 && same_prefix (masked a.addr a.len) p

-- the lowest or the highest address of its prefix, where that has more than two
abbrev pub is_edge : ℕ → Address → Bool
is_edge x a = list_any (λ y. y == x) (edge_addresses a)

abbrev pub connected_at : Prefix → Option Address → List Pair
connected_at p None = []
connected_at p (Some a) = one p sources.Interface (kinds.Attached a.interface) ∷ []

abbrev pub host_at : Prefix → Bool → Bool → List Pair
host_at p true edge = one p sources.Interface kinds.Local ∷ []
host_at p false true = one p sources.Interface kinds.Drop ∷ []
host_at p false false = []

-- what the interfaces' addresses make of the prefix
unfoldable pub own_at : Prefix → List Address → List Pair
own_at p xs =
    if nat_lt p.len 32
    then connected_at p (find (is_connected p) xs)
    else host_at p (is_address xs p.bits) (list_any (is_edge p.bits) xs)

abbrev pub written_at : Prefix → FibSource → List Path → List Pair
written_at p s [] = []
written_at p s (q ∷ qs) = record { prefix = p; source = s; paths = q ∷ qs } ∷ []

abbrev pub default_at : Prefix → List Pair
default_at p = if same_prefix p everything then one p sources.DefaultRoute kinds.Drop ∷ [] else []

-- all base pairs of a prefix, by look-ups
unfoldable pub base_at : Tables → Prefix → List Pair
base_at S p =
    special_at p ++ own_at p (filter (λ a. is_own a p) S.addresses) ++ written_at p sources.Api (paths_at p sources.Api S.routes)
    ++ written_at p sources.Cli (paths_at p sources.Cli S.routes) ++ default_at p

abbrev pub near_with : ℕ → ℕ → Option ℕ → List Pair
near_with a i None = []
near_with a i (Some mac) = one (host a) sources.Adjacency (kinds.Hop a i) ∷ []

-- what a neighbor makes of a host that is attached so
abbrev pub near_at : Tables → ℕ → Option ℕ → List Pair
near_at S a None = []
near_at S a (Some i) = near_with a i (mac_of S i a)

-- what a next hop makes of it
abbrev pub hop_at : ℕ → Option ℕ → Bool → List Pair
hop_at a attached is_hop = if is_hop then one (host a) sources.RecursiveResolution (derived_kind a attached) ∷ [] else []

abbrev pub leads_to : ℕ → Path → Bool
leads_to a p = is_interface (recursive_of p) a

-- a written route of the prefix has the address as next hop
abbrev pub is_way : Tables → ℕ → Prefix → Bool
is_way S a q = list_any (leads_to a) (paths_at q sources.Api S.routes) || list_any (leads_to a) (paths_at q sources.Cli S.routes)

abbrev pub paths_in : List Pair → List Path
paths_in [] = []
paths_in (x ∷ xs) = x.paths

abbrev pub cover_in : Option Host → Option Prefix
cover_in None = None
cover_in (Some h) = Some h.cover
