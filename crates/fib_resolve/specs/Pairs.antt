-- The effective pairs: which prefix has which path-list from which source. The chosen list of an entry, covers and best entries.
use Rattle.std.specs.Prelude.{ℕ, Bool, false, ◌+◌, ◌-◌, ◌==◌, ◌&&◌, List, [], ◌∷◌, ◌++◌, map, flat_map, filter_map, filter, Option, Some}
use Rattle.std.specs.Prelude.{None, nat_lt, nat_le, if◌then◌else◌}
use Rattle.std.specs.List.{list_any}
use Rattle.std.specs.Set.{unique_keys}
use Rattle.std.specs.Cmp.Lexicographic.{pointwise}
use Rattle.fib_addr.specs.Prefixes.{Prefix, same_prefix, masked, host, size_of}
use Rattle.fib_addr.specs.Longest.{everything, longest}
use Rattle.fib_resolve.specs.Keys.{source_rank, is_derived_source, same_source, same_path}
use Rattle.fib_resolve.specs.declared.pairs.Pair.{Pair}
use Rattle.fib_resolve.specs.declared.types.Path.{Path}
use Rattle.fib_resolve.specs.declared.types.PathKind.{PathKind}
use Rattle.fib_resolve.specs.declared.types.PathKind.TheVariants as kinds
use Rattle.fib_resolve.specs.declared.types.Need.TheVariants as needs
use Rattle.fib_resolve.specs.declared.types.FibSource.{FibSource}
use Rattle.fib_resolve.specs.declared.types.FibSource.TheVariants as sources
use Rattle.fib_resolve.specs.declared.types.Address.{Address}
use Rattle.fib_resolve.specs.declared.types.Neighbor.{Neighbor}
use Rattle.fib_resolve.specs.declared.types.Route.{Route}
use Rattle.fib_resolve.specs.declared.types.Tables.{Tables}

-- a path that no command writes has weight 1, preference 0 and no need
abbrev pub plain : PathKind → Path
plain kind = record { kind = kind; need = needs.Any; weight = 1; preference = 0 }

abbrev pub one : Prefix → FibSource → PathKind → Pair
one prefix source kind = record { prefix = prefix; source = source; paths = plain kind ∷ [] }

-- the pairs of every table
abbrev pub fixed_pairs : List Pair
fixed_pairs =
    one everything sources.DefaultRoute kinds.Drop ∷
    one (host 0) sources.Special kinds.Drop ∷
    one (record { bits = 0xe0000000; len = 4 }) sources.Special kinds.Drop ∷
    one (record { bits = 0xf0000000; len = 4 }) sources.Special kinds.Drop ∷
    one (host 0xffffffff) sources.Special kinds.Drop ∷ []

-- an interface's address makes its prefix attached, where that is shorter than 32, and itself local
abbrev pub connected_pairs : Address → List Pair
connected_pairs a =
    (if nat_lt a.len 32 then one (masked a.addr a.len) sources.Interface (kinds.Attached a.interface) ∷ [] else [])
    ++ one (host a.addr) sources.Interface kinds.Local ∷ []

-- the lowest and the highest address of its prefix, where that has more than two
abbrev pub edge_addresses : Address → List ℕ
edge_addresses a =
    if nat_le a.len 30
    then (masked a.addr a.len).bits ∷ ((masked a.addr a.len).bits + size_of a.len - 1) ∷ []
    else []

abbrev pub is_address : List Address → ℕ → Bool
is_address addresses x = list_any (λ b. b.addr == x) addresses

-- a network or broadcast address drops, unless an interface has it
abbrev pub edge_pair : List Address → ℕ → List Pair
edge_pair addresses x = if is_address addresses x then [] else one (host x) sources.Interface kinds.Drop ∷ []

abbrev pub edge_pairs : List Address → Address → List Pair
edge_pairs addresses a = flat_map (edge_pair addresses) (edge_addresses a)

abbrev pub route_pair : Route → Pair
route_pair r = record { prefix = r.prefix; source = r.source; paths = r.paths }

-- the pairs that depend on no cover
unfoldable pub base_pairs : Tables → List Pair
base_pairs S =
    fixed_pairs ++ flat_map connected_pairs S.addresses ++ flat_map (edge_pairs S.addresses) S.addresses ++ map route_pair S.routes

abbrev pub prefix_of : Pair → Prefix
prefix_of x = x.prefix

abbrev pub is_short : Prefix → Bool
is_short p = nat_lt p.len 32

-- the prefixes that can be covers: all other pairs are of hosts
unfoldable pub short_prefixes : Tables → List Prefix
short_prefixes S = filter is_short (map prefix_of (base_pairs S))

-- the longest prefix of length below 32 that contains the address
unfoldable pub cover : Tables → ℕ → Prefix
cover S a = longest a (short_prefixes S)

-- the better of two pairs, the first where they are of one source
abbrev pub better : Pair → Option Pair → Pair
better x None = x
better x (Some y) = if nat_lt (source_rank y.source) (source_rank x.source) then y else x

-- the pair of the prefix whose source is the best
unfoldable pub best_pair : Prefix → List Pair → Option Pair
best_pair p [] = None
best_pair p (x ∷ xs) = if same_prefix p x.prefix then Some (better x (best_pair p xs)) else best_pair p xs

abbrev pub paths_of : Option Pair → List Path
paths_of None = []
paths_of (Some x) = x.paths

-- the interface, where the list is one path and that is Attached, whatever its weight and preference
abbrev pub attached_kind : PathKind → Option ℕ
attached_kind (kinds.Attached i) = Some i
attached_kind kinds.Drop = None
attached_kind kinds.Local = None
attached_kind (kinds.Hop a i) = None
attached_kind (kinds.Recursive a) = None
attached_kind kinds.Cover = None

abbrev pub attached_of : List Path → Option ℕ
attached_of [] = None
attached_of (p ∷ []) = attached_kind p.kind
attached_of (p ∷ q ∷ ps) = None

-- the interface to which the address is attached by its cover
unfoldable pub attached_by : Tables → ℕ → Option ℕ
attached_by S a = attached_of (paths_of (best_pair (cover S a) (base_pairs S)))

abbrev pub is_interface : Option ℕ → ℕ → Bool
is_interface None i = false
is_interface (Some j) i = i == j

-- a neighbor on the interface to which its address is attached
unfoldable pub neighbor_pairs : Tables → Neighbor → List Pair
neighbor_pairs S n =
    if is_interface (attached_by S n.addr) n.interface
    then one (host n.addr) sources.Adjacency (kinds.Hop n.addr n.interface) ∷ []
    else []

abbrev pub recursive_kind : PathKind → Option ℕ
recursive_kind (kinds.Recursive a) = Some a
recursive_kind kinds.Drop = None
recursive_kind kinds.Local = None
recursive_kind (kinds.Attached i) = None
recursive_kind (kinds.Hop a i) = None
recursive_kind kinds.Cover = None

abbrev pub recursive_of : Path → Option ℕ
recursive_of p = recursive_kind p.kind

abbrev pub derived_kind : ℕ → Option ℕ → PathKind
derived_kind a (Some i) = kinds.Hop a i
derived_kind a None = kinds.Cover

-- the entry that a recursive path's next hop makes
unfoldable pub derived_pair : Tables → ℕ → Pair
derived_pair S a = one (host a) sources.RecursiveResolution (derived_kind a (attached_by S a))

abbrev pub recursive_hops : Route → List ℕ
recursive_hops r = filter_map recursive_of r.paths

-- the pairs with repeats
unfoldable pub all_pairs : Tables → List Pair
all_pairs S =
    base_pairs S ++ flat_map (neighbor_pairs S) S.neighbors ++ map (derived_pair S) (flat_map recursive_hops S.routes)

abbrev pub same_pair : Pair → Pair → Bool
same_pair x y = same_prefix x.prefix y.prefix && (same_source x.source y.source && pointwise same_path x.paths y.paths)

-- the effective pairs, each once
unfoldable pub pairs : Tables → List Pair
pairs S = unique_keys same_pair (all_pairs S)

-- the effective entries: the prefixes with a pair, each once
unfoldable pub entries : Tables → List Prefix
entries S = unique_keys same_prefix (map prefix_of (pairs S))

-- the chosen list: that of the entry's best source
unfoldable pub chosen : Tables → Prefix → List Path
chosen S e = paths_of (best_pair e (pairs S))

abbrev pub is_derived_pair : Option Pair → Bool
is_derived_pair None = false
is_derived_pair (Some x) = is_derived_source x.source

-- the best source is recursive resolution
unfoldable pub is_derived : Tables → Prefix → Bool
is_derived S e = is_derived_pair (best_pair e (pairs S))

-- the longest effective prefix that contains the address
unfoldable pub best : Tables → ℕ → Prefix
best S a = longest a (entries S)
