-- The tables: how they begin, what is found in them, and what it is to be well formed.
use Rattle.std.specs.Prelude.{◌≡◌, ◌≤◌, ◌<◌, ◌⊎◌, ℕ, Bool, true, false, ◌&&◌, ◌==◌, List, [], ◌∷◌, length, position, Contains, Option, bytes_eq, nat_lt, not}
use Rattle.std.specs.List.{AllByRecursion, IsDistinct, list_any}
use Rattle.fib_addr.specs.Prefixes.{Prefix, same_prefix, masked}
use Rattle.fib_resolve.specs.Keys.{same_source, key_of, key_lt, is_drop_or_local}
use Rattle.fib_resolve.specs.declared.types.Interface.{Interface}
use Rattle.fib_resolve.specs.declared.types.Address.{Address}
use Rattle.fib_resolve.specs.declared.types.Neighbor.{Neighbor}
use Rattle.fib_resolve.specs.declared.types.Path.{Path}
use Rattle.fib_resolve.specs.declared.types.PathKind.{PathKind}
use Rattle.fib_resolve.specs.declared.types.PathKind.TheVariants as kinds
use Rattle.fib_resolve.specs.declared.types.Need.{Need}
use Rattle.fib_resolve.specs.declared.types.Need.TheVariants as needs
use Rattle.fib_resolve.specs.declared.types.FibSource.{FibSource}
use Rattle.fib_resolve.specs.declared.types.FibSource.TheVariants as sources
use Rattle.fib_resolve.specs.declared.types.Route.{Route}
use Rattle.fib_resolve.specs.declared.types.Tables.{Tables}

-- how all tables begin
abbrev pub fresh : Tables
fresh = record { interfaces = []; addresses = []; neighbors = []; routes = [] }

abbrev pub has_name : List ℕ → Interface → Bool
has_name name i = bytes_eq i.name name

-- the number of the interface with that name
abbrev pub interface_named : Tables → List ℕ → Option ℕ
interface_named S name = position (has_name name) S.interfaces

abbrev pub same_name : Interface → Interface → Bool
same_name x y = has_name y.name x

abbrev pub same_address : Address → Address → Bool
same_address a b = (a.interface == b.interface) && ((a.addr == b.addr) && (a.len == b.len))

abbrev pub same_neighbor : Neighbor → Neighbor → Bool
same_neighbor m n = (m.interface == n.interface) && (m.addr == n.addr)

abbrev pub is_route : Prefix → FibSource → Route → Bool
is_route prefix source r = same_prefix r.prefix prefix && same_source r.source source

abbrev pub same_route : Route → Route → Bool
same_route r s = is_route s.prefix s.source r

-- both have one prefix shorter than 32, on different interfaces
abbrev pub connects_elsewhere : Address → Address → Bool
connects_elsewhere a b = nat_lt b.len 32 && (not (b.interface == a.interface) && same_prefix (masked b.addr b.len) (masked a.addr a.len))

-- a Drop or Local path beside another
abbrev pub is_mixed : List Path → Bool
is_mixed ps = nat_lt 1 (length ps) && list_any (λ p. is_drop_or_local p.kind) ps

-- each path's key is below those of all paths behind it
abbrev pub IsSortedByKeys : List Path → Type 0
IsSortedByKeys [] = Unit {0}
IsSortedByKeys (p ∷ ps) = AllByRecursion (λ q. key_lt (key_of p) (key_of q) ≡ true) ps × IsSortedByKeys ps

-- the path's interface, where it has one, is below that number
abbrev pub IsInRange : ℕ → PathKind → Type 0
IsInRange n (kinds.Attached i) = i < n
IsInRange n (kinds.Hop a i) = i < n
IsInRange n kinds.Drop = Unit {0}
IsInRange n kinds.Local = Unit {0}
IsInRange n (kinds.Recursive a) = Unit {0}
IsInRange n kinds.Cover = Unit {0}

-- only a recursive path needs something
abbrev pub NeedsLittle : Need → PathKind → Type 0
NeedsLittle need (kinds.Recursive a) = Unit {0}
NeedsLittle need (kinds.Attached i) = need ≡ needs.Any
NeedsLittle need (kinds.Hop a i) = need ≡ needs.Any
NeedsLittle need kinds.Drop = need ≡ needs.Any
NeedsLittle need kinds.Local = need ≡ needs.Any
NeedsLittle need kinds.Cover = need ≡ needs.Any

-- a path of a route, where there are that many interfaces
pub record IsSoundPath (n : ℕ) (p : Path) : Type 0 where
  pub weighted : 0 < p.weight
  pub in_range : IsInRange n p.kind
  pub written : p.kind ≡ kinds.Cover → ⊥
  pub needs_little : NeedsLittle p.need p.kind

-- a list of written paths, where there are that many interfaces
pub record IsSoundList (n : ℕ) (ps : List Path) : Type 0 where
  pub few : length ps ≤ 16
  pub sorted : IsSortedByKeys ps
  pub unmixed : is_mixed ps ≡ false
  pub each : AllByRecursion (IsSoundPath n) ps

-- a route, where there are that many interfaces
pub record IsSoundRoute (n : ℕ) (r : Route) : Type 0 where
  pub written : (r.source ≡ sources.Api) ⊎ (r.source ≡ sources.Cli)
  pub some : 0 < length r.paths
  pub list : IsSoundList n r.paths

-- an address, where there are that many interfaces
pub record IsSoundAddress (n : ℕ) (a : Address) : Type 0 where
  pub short : a.len ≤ 32
  pub in_range : a.interface < n

-- well-formed tables: what every list of unrefused edits keeps
pub record IsSound (S : Tables) : Type 0 where
  pub few_interfaces : length S.interfaces ≤ 256
  pub names_apart : IsDistinct same_name S.interfaces
  pub addresses : AllByRecursion (IsSoundAddress (length S.interfaces)) S.addresses
  pub addresses_apart : IsDistinct same_address S.addresses
  pub connected_once : (a b : Address) → Contains S.addresses a → Contains S.addresses b → connects_elsewhere a b ≡ false
  pub neighbors : AllByRecursion (λ n. n.interface < length S.interfaces) S.neighbors
  pub neighbors_apart : IsDistinct same_neighbor S.neighbors
  pub routes : AllByRecursion (IsSoundRoute (length S.interfaces)) S.routes
  pub routes_apart : IsDistinct same_route S.routes
