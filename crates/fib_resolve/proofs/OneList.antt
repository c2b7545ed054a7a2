-- In well-formed tables a prefix has one list from a source.
use Rattle.std.proofs.Common.{arith, ◌≡◌, ℕ, zero, suc, Bool, true, false, cond, ◌&&◌, ◌==◌, List, [], ◌∷◌, ◌++◌, map, length, Option, Some, None, ◌⊎◌, inl, inr, refl, sym, ◌∙◌, ap, subst}
use Rattle.std.specs.Prelude.{Contains, flat_map, nat_lt, find, option_map, unwrap_or}
use Rattle.std.specs.List.{AllByRecursion, IsDistinct}
use Rattle.std.proofs.lemmas.Bool.{false≢true}
use Rattle.std.proofs.lemmas.Bool.Decides.{nat_tests}
use Rattle.std.proofs.lemmas.List.Elements.{recursion_from_All, All-contains, All-from_recursion, All-contains_itself}
use Rattle.fib_base_list.proofs.Lists.{either, each-append, each-weaker, each-map, each-flat_map}
use Rattle.fib_addr.specs.Prefixes.{Prefix, same_prefix, host, masked}
use Rattle.fib_addr.proofs.PrefixLaws.{same_prefix-Decides}
use Rattle.fib_resolve.specs.Keys.{source_rank}
use Rattle.fib_resolve.specs.Pairs.{all_pairs, base_pairs, fixed_pairs, connected_pairs, edge_pair, edge_pairs, edge_addresses, is_address, route_pair, neighbor_pairs, derived_pair, derived_kind, recursive_hops, attached_by, is_interface, pairs, same_pair, one, plain}
use Rattle.fib_resolve.specs.Tables.{IsSound, is_route, same_route, connects_elsewhere, IsSoundRoute}
use Rattle.fib_resolve.specs.Edits.{paths_at}
use Rattle.fib_resolve.specs.declared.types.Address.{Address}
use Rattle.fib_resolve.specs.declared.types.Neighbor.{Neighbor}
use Rattle.fib_resolve.specs.declared.types.Route.{Route}
use Rattle.fib_resolve.specs.declared.pairs.Pair.{Pair}
use Rattle.fib_resolve.specs.declared.types.Path.{Path}
use Rattle.fib_resolve.specs.declared.types.PathKind.{PathKind}
use Rattle.fib_resolve.specs.declared.types.PathKind.TheVariants as kinds
use Rattle.fib_resolve.specs.declared.types.FibSource.{FibSource}
use Rattle.fib_resolve.specs.declared.types.FibSource.TheVariants as sources
use Rattle.fib_resolve.specs.declared.types.Tables.{Tables}
use Rattle.fib_resolve.proofs.PairLaws.{each-all, each-unique}
use Rattle.fib_base_list.proofs.Booleans.{or_right}

pub each-itself : {X : Type 0} (xs : List X) → AllByRecursion (Contains xs) xs
each-itself xs = recursion_from_All (Contains xs) xs (All-contains_itself xs)

-- a fact on pairs that the pairs of each group have
pub groups_have : (P : Pair → Type 0) (S : Tables) → AllByRecursion P fixed_pairs → ((a : Address) → Contains S.addresses a → AllByRecursion P (connected_pairs a)) →
    ((a : Address) → AllByRecursion P (edge_pairs S.addresses a)) → ((r : Route) → Contains S.routes r → P (route_pair r)) →
    ((n : Neighbor) → AllByRecursion P (neighbor_pairs S n)) → ((a : ℕ) → P (derived_pair S a)) → AllByRecursion P (pairs S)
unfolding pairs all_pairs base_pairs
groups_have P S fixed connected edge route neighbor derived =
    let connecteds = flat_map connected_pairs S.addresses in
    let edges = flat_map (edge_pairs S.addresses) S.addresses in
    let routes = map route_pair S.routes in
    let neighbors = flat_map (neighbor_pairs S) S.neighbors in
    let hops = flat_map recursive_hops S.routes in
    let base = fixed_pairs ++ connecteds ++ edges ++ routes in
    each-unique P same_pair (base ++ neighbors ++ map (derived_pair S) hops)
    (each-append P (base ++ neighbors) (map (derived_pair S) hops)
    (each-append P base neighbors
    (each-append P (fixed_pairs ++ connecteds ++ edges) routes
    (each-append P (fixed_pairs ++ connecteds) edges
    (each-append P fixed_pairs connecteds fixed (each-flat_map P connected_pairs S.addresses (each-weaker (Contains S.addresses) (λ a. AllByRecursion P (connected_pairs a)) connected S.addresses (each-itself S.addresses))))
    (each-flat_map P (edge_pairs S.addresses) S.addresses (each-all (λ a. AllByRecursion P (edge_pairs S.addresses a)) edge S.addresses)))
    (each-map P route_pair S.routes (each-weaker (Contains S.routes) (λ r. P (route_pair r)) route S.routes (each-itself S.routes))))
    (each-flat_map P (neighbor_pairs S) S.neighbors (each-all (λ n. AllByRecursion P (neighbor_pairs S n)) neighbor S.neighbors)))
    (each-map P (derived_pair S) hops (each-all (λ a. P (derived_pair S a)) derived hops)))

-- an address shorter than 32 has that prefix
abbrev is_connected : Prefix → Address → Bool
is_connected p a = nat_lt a.len 32 && same_prefix (masked a.addr a.len) p

abbrev interface_at : Tables → Prefix → ℕ
interface_at S p = unwrap_or (option_map (λ a. a.interface) (find (is_connected p) S.addresses)) 0

abbrev interface_kind : Tables → Prefix → PathKind
interface_kind S p = cond (nat_lt p.len 32) (kinds.Attached (interface_at S p)) (cond (is_address S.addresses p.bits) kinds.Local kinds.Drop)

-- the list of a prefix from a source
pub list_of : Tables → Prefix → FibSource → List Path
list_of S p sources.Special = plain kinds.Drop ∷ []
list_of S p sources.Interface = plain (interface_kind S p) ∷ []
list_of S p sources.Api = paths_at p sources.Api S.routes
list_of S p sources.Cli = paths_at p sources.Cli S.routes
list_of S p sources.Adjacency = plain (derived_kind p.bits (attached_by S p.bits)) ∷ []
list_of S p sources.RecursiveResolution = plain (derived_kind p.bits (attached_by S p.bits)) ∷ []
list_of S p sources.DefaultRoute = plain kinds.Drop ∷ []

abbrev Listed : Tables → Pair → Type 0
Listed S x = x.paths ≡ list_of S x.prefix x.source

fixed_listed : (S : Tables) → AllByRecursion (Listed S) fixed_pairs
unfolding list_of
fixed_listed S = (refl, (refl, (refl, (refl, (refl, tt)))))

found_same : (S : Tables) (xs : List Address) (a : Address) → ((x : Address) → Contains xs x → connects_elsewhere a x ≡ false) → Contains xs a → nat_lt a.len 32 ≡ true → unwrap_or (option_map (λ b. b.interface) (find (is_connected (masked a.addr a.len)) xs)) 0 ≡ a.interface
found_same S [] a h c short = absurd (omega (arith, c.1))
found_same S (x ∷ xs) a h c short =
    elim (either (is_connected (masked a.addr a.len) x)) [
      | inl is ↦ rw is (same_interface x a is (h x (0, omega arith, refl)))
      | inr isnt ↦ elim (first_or a x xs c) [
        | inl same ↦ absurd (false≢true (sym isnt ∙ subst (λ (b : Address). is_connected (masked a.addr a.len) b ≡ true) (sym same) (own a short)))
        | inr later ↦ rw isnt (found_same S xs a (λ y k. h y (suc k.0, omega (arith, k.1), k.2)) later short)
      ]
    ]
  where
    first_or : (b y : Address) (ys : List Address) → Contains (y ∷ ys) b → (y ≡ b) ⊎ Contains ys b
    first_or b y ys (zero, lt, is) = inl is
    first_or b y ys (suc k, lt, is) = inr (k, omega (arith, lt), is)

    same_interface : (y b : Address) → is_connected (masked b.addr b.len) y ≡ true → connects_elsewhere b y ≡ false → y.interface ≡ b.interface
    same_interface y b k n = grind (arith, nat_tests)

    own : (b : Address) → nat_lt b.len 32 ≡ true → is_connected (masked b.addr b.len) b ≡ true
    own b k = grind (arith, nat_tests)

attached_listed : (S : Tables) → IsSound S → (a : Address) → Contains S.addresses a → nat_lt a.len 32 ≡ true → Listed S (one (masked a.addr a.len) sources.Interface (kinds.Attached a.interface))
unfolding list_of
attached_listed S h a c short =
    let same = found_same S S.addresses a (λ x k. h.connected_once a x c k) c short in
    rw (short, same) refl

list_any_at : (xs : List Address) (a : Address) → Contains xs a → is_address xs a.addr ≡ true
list_any_at [] a c = absurd (omega (arith, c.1))
list_any_at (x ∷ xs) a (zero, lt, is) = rw (ap (λ (b : Address). b.addr == a.addr) is ∙ own a.addr) refl
  where
    own : (n : ℕ) → (n == n) ≡ true
    own n = grind (arith, nat_tests)
list_any_at (x ∷ xs) a (suc k, lt, is) = or_right (x.addr == a.addr) _ (list_any_at xs a (k, omega (arith, lt), is))

local_listed : (S : Tables) (a : Address) → Contains S.addresses a → Listed S (one (host a.addr) sources.Interface kinds.Local)
unfolding list_of
local_listed S a c = rw (list_any_at S.addresses a c) refl

-- one list where the test passes
pub one_if : (P : Pair → Type 0) (b : Bool) (x : Pair) → (b ≡ true → P x) → AllByRecursion P (cond b (x ∷ []) [])
one_if P true x h = (h refl, tt)
one_if P false x h = tt

pub one_unless : (P : Pair → Type 0) (b : Bool) (x : Pair) → (b ≡ false → P x) → AllByRecursion P (cond b [] (x ∷ []))
one_unless P true x h = tt
one_unless P false x h = (h refl, tt)

connected_listed : (S : Tables) → IsSound S → (a : Address) → Contains S.addresses a → AllByRecursion (Listed S) (connected_pairs a)
connected_listed S h a c =
    each-append (Listed S) (cond (nat_lt a.len 32) (one (masked a.addr a.len) sources.Interface (kinds.Attached a.interface) ∷ []) []) (one (host a.addr) sources.Interface kinds.Local ∷ [])
    (one_if (Listed S) (nat_lt a.len 32) (one (masked a.addr a.len) sources.Interface (kinds.Attached a.interface)) (attached_listed S h a c)) (local_listed S a c, tt)

edge_one : (S : Tables) (x : ℕ) → is_address S.addresses x ≡ false → Listed S (one (host x) sources.Interface kinds.Drop)
unfolding list_of
edge_one S x none = rw none refl

edge_listed : (S : Tables) (a : Address) → AllByRecursion (Listed S) (edge_pairs S.addresses a)
edge_listed S a =
    each-flat_map (Listed S) (edge_pair S.addresses) (edge_addresses a)
    (each-all (λ x. AllByRecursion (Listed S) (edge_pair S.addresses x)) (λ x. one_unless (Listed S) (is_address S.addresses x) (one (host x) sources.Interface kinds.Drop) (edge_one S x)) (edge_addresses a))

same_self : (r : Route) → is_route r.prefix r.source r ≡ true
same_self r = rw ((same_prefix-Decides r.prefix r.prefix).1 refl) (grind (arith, nat_tests))

paths_own : (rs : List Route) (r : Route) → IsDistinct same_route rs → Contains rs r → paths_at r.prefix r.source rs ≡ r.paths
unfolding IsDistinct
paths_own [] r h c = absurd (omega (arith, c.1))
paths_own (x ∷ xs) r h (zero, lt, is) = subst (λ (y : Route). cond (is_route y.prefix y.source x) x.paths (paths_at y.prefix y.source xs) ≡ y.paths) is (rw (same_self x) refl)
paths_own (x ∷ xs) r h (suc k, lt, is) =
    let c : Contains xs r = (k, omega (arith, lt), is) in
    let other : is_route r.prefix r.source x ≡ false = All-contains (λ y. same_route x y ≡ false) xs r (All-from_recursion (λ y. same_route x y ≡ false) xs h.0) c in
    rw other (paths_own xs r h.1 c)

route_source : (S : Tables) (r : Route) → (r.source ≡ sources.Api) ⊎ (r.source ≡ sources.Cli) → paths_at r.prefix r.source S.routes ≡ r.paths → Listed S (route_pair r)
unfolding list_of
route_source S r (inl api) h = rw api (sym (rw api at h))
route_source S r (inr cli) h = rw cli (sym (rw cli at h))

route_listed : (S : Tables) → IsSound S → (r : Route) → Contains S.routes r → Listed S (route_pair r)
route_listed S h r c =
    let good = All-contains (IsSoundRoute (length S.interfaces)) S.routes r (All-from_recursion (IsSoundRoute (length S.interfaces)) S.routes h.routes) c in
    route_source S r good.written (paths_own S.routes r h.routes_apart c)

at_interface : (a i : ℕ) (o : Option ℕ) → is_interface o i ≡ true → derived_kind a o ≡ kinds.Hop a i
at_interface a i None h = absurd (false≢true h)
at_interface a i (Some j) h =
    let same : i ≡ j = grind (arith, nat_tests) in
    ap (λ (k : ℕ). kinds.Hop a k) (sym same)

neighbor_listed : (S : Tables) (n : Neighbor) → AllByRecursion (Listed S) (neighbor_pairs S n)
unfolding neighbor_pairs list_of
neighbor_listed S n =
    one_if (Listed S) (is_interface (attached_by S n.addr) n.interface) (one (host n.addr) sources.Adjacency (kinds.Hop n.addr n.interface))
    (λ is. ap (λ (k : PathKind). plain k ∷ []) (sym (at_interface n.addr n.interface (attached_by S n.addr) is)))

derived_listed : (S : Tables) (a : ℕ) → Listed S (derived_pair S a)
unfolding derived_pair list_of
derived_listed S a = refl

-- each pair's list is that of its prefix and source
pub pairs_listed : (S : Tables) → IsSound S → AllByRecursion (λ x. x.paths ≡ list_of S x.prefix x.source) (pairs S)
pairs_listed S h = groups_have (Listed S) S (fixed_listed S) (connected_listed S h) (edge_listed S) (route_listed S h) (neighbor_listed S) (derived_listed S)

by_rank : (s t : FibSource) → source_rank s ≡ source_rank t → s ≡ t
by_rank s t h = sym (at_rank s) ∙ (ap at h ∙ at_rank t)
  where
    at : ℕ → FibSource
    at zero = sources.Special
    at (suc zero) = sources.Interface
    at (suc (suc zero)) = sources.Api
    at (suc (suc (suc zero))) = sources.Cli
    at (suc (suc (suc (suc zero)))) = sources.Adjacency
    at (suc (suc (suc (suc (suc zero))))) = sources.RecursiveResolution
    at (suc (suc (suc (suc (suc (suc n)))))) = sources.DefaultRoute

    at_rank : (s : FibSource) → at (source_rank s) ≡ s
    at_rank sources.Special = refl
    at_rank sources.Interface = refl
    at_rank sources.Api = refl
    at_rank sources.Cli = refl
    at_rank sources.Adjacency = refl
    at_rank sources.RecursiveResolution = refl
    at_rank sources.DefaultRoute = refl

pub source_by_rank : (s t : FibSource) → source_rank s ≡ source_rank t → s ≡ t
source_by_rank = by_rank

pub pair_listed : (S : Tables) → IsSound S → (x : Pair) → Contains (pairs S) x → x.paths ≡ list_of S x.prefix x.source
pair_listed S h x c = All-contains (λ y. y.paths ≡ list_of S y.prefix y.source) (pairs S) x (All-from_recursion (λ y. y.paths ≡ list_of S y.prefix y.source) (pairs S) (pairs_listed S h)) c

-- one list a prefix and source
pub one_list : (S : Tables) → IsSound S → (x y : Pair) → Contains (pairs S) x → Contains (pairs S) y → x.prefix ≡ y.prefix → x.source ≡ y.source → x.paths ≡ y.paths
one_list S h x y c d p s =
    pair_listed S h x c ∙ (ap (λ (q : Prefix). list_of S q x.source) p ∙ (ap (λ (t : FibSource). list_of S y.prefix t) s ∙ sym (pair_listed S h y d)))
