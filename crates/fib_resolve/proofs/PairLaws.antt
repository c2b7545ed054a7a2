-- What holds of every effective pair.
use Rattle.std.proofs.Common.{arith, ◌≡◌, ℕ, ◌<◌, Bool, true, false, cond, List, [], ◌∷◌, ◌++◌, map, length, Option, Some, None, inl, inr, refl, sym, subst}
use Rattle.std.specs.Prelude.{Contains, flat_map, filter, IfSome, nat_lt}
use Rattle.std.specs.List.{AllByRecursion}
use Rattle.std.specs.Set.{unique_keys, is_member}
use Rattle.std.proofs.lemmas.List.Elements.{All-contains, All-from_recursion}
use Rattle.std.proofs.lemmas.Bool.{ltb-true}
use Rattle.fib_base_list.proofs.Lists.{either, each-append, each-filter, each-weaker, each-map, each-flat_map}
use Rattle.fib_addr.specs.Prefixes.{Prefix, same_prefix, host, masked}
use Rattle.fib_addr.specs.Longest.{everything, longest, longer}
use Rattle.fib_addr.proofs.PrefixLaws.{same_prefix-Decides}
use Rattle.fib_resolve.specs.Pairs.{all_pairs, base_pairs, fixed_pairs, connected_pairs, edge_pair, edge_pairs, edge_addresses, is_address, route_pair, neighbor_pairs, derived_pair, recursive_hops, attached_by, is_interface, pairs, best_pair, better, paths_of, prefix_of, cover, short_prefixes, is_short, same_pair, one, plain, chosen}
use Rattle.fib_resolve.specs.Buckets.{IsShort}
use Rattle.fib_resolve.specs.Tables.{IsSound, IsSoundRoute, IsSoundPath}
use Rattle.fib_resolve.specs.declared.types.Address.{Address}
use Rattle.fib_resolve.specs.declared.types.Neighbor.{Neighbor}
use Rattle.fib_resolve.specs.declared.types.Route.{Route}
use Rattle.fib_resolve.specs.declared.pairs.Pair.{Pair}
use Rattle.fib_resolve.specs.declared.types.Path.{Path}
use Rattle.fib_resolve.specs.declared.types.PathKind.{PathKind}
use Rattle.fib_resolve.specs.declared.types.PathKind.TheVariants as kinds
use Rattle.fib_resolve.specs.declared.types.FibSource.{FibSource}
use Rattle.fib_resolve.specs.declared.types.FibSource.TheVariants as sources
use Rattle.fib_resolve.specs.declared.types.Tables.{Tables}

-- what the first of two has and the second has, their choice has
pub cond_has : {X : Type 0} (P : X → Type 0) (b : Bool) (x y : X) → P x → P y → P (cond b x y)
cond_has P true x y h k = h
cond_has P false x y h k = k

pub each-all : {X : Type 0} (P : X → Type 0) → ((x : X) → P x) → (xs : List X) → AllByRecursion P xs
each-all P h [] = tt
each-all P h (x ∷ xs) = (h x, each-all P h xs)

pub each-unique : {X : Type 0} (P : X → Type 0) (eq : X → X → Bool) (xs : List X) → AllByRecursion P xs → AllByRecursion P (unique_keys eq xs)
each-unique P eq [] h = tt
each-unique P eq (x ∷ xs) h =
    elim (either (is_member eq xs x)) [
      | inl is ↦ rw is (each-unique P eq xs h.1)
      | inr isnt ↦ rw isnt (h.0, each-unique P eq xs h.1)
    ]

-- a fact on pairs that each pair of one plain path has, unless its path is Cover and its prefix no host
module _ (P : Pair → Type 0) (made : (prefix : Prefix) (source : FibSource) (kind : PathKind) → (kind ≡ kinds.Cover → prefix.len ≡ 32) → P (one prefix source kind)) where
  fixed_have : AllByRecursion P fixed_pairs
  fixed_have = (
    made everything sources.DefaultRoute kinds.Drop (λ e. absurd (cc)),
    (
      made (host 0) sources.Special kinds.Drop (λ e. refl),
      (
        made (record { bits = 0xe0000000; len = 4 }) sources.Special kinds.Drop (λ e. absurd (cc)),
        (
          made (record { bits = 0xf0000000; len = 4 }) sources.Special kinds.Drop (λ e. absurd (cc)),
          (made (host 0xffffffff) sources.Special kinds.Drop (λ e. refl), tt),
        ),
      ),
    ),
  )

  connected_have : (a : Address) → AllByRecursion P (connected_pairs a)
  connected_have a =
      let own : Pair = one (masked a.addr a.len) sources.Interface (kinds.Attached a.interface) in
      each-append P (cond (nat_lt a.len 32) (own ∷ []) []) (one (host a.addr) sources.Interface kinds.Local ∷ [])
      (cond_has (AllByRecursion P) (nat_lt a.len 32) (own ∷ []) [] (made _ _ _ (λ e. absurd (cc)), tt) tt) (made _ _ _ (λ e. refl), tt)

  edge_have : (addresses : List Address) (a : Address) → AllByRecursion P (edge_pairs addresses a)
  edge_have addresses a =
      each-flat_map P (edge_pair addresses) (edge_addresses a) (each-all (λ x. AllByRecursion P (edge_pair addresses x)) (λ x. cond_has (AllByRecursion P) (is_address addresses x) [] _ tt (made _ _ _ (λ e. refl), tt)) (edge_addresses a))

  neighbor_have : (S : Tables) (n : Neighbor) → AllByRecursion P (neighbor_pairs S n)
  unfolding neighbor_pairs
  neighbor_have S n =
      cond_has (AllByRecursion P) (is_interface (attached_by S n.addr) n.interface) (one (host n.addr) sources.Adjacency (kinds.Hop n.addr n.interface) ∷ []) [] (made _ _ _ (λ e. refl), tt) tt

  derived_have : (S : Tables) (a : ℕ) → P (derived_pair S a)
  unfolding derived_pair
  derived_have S a = made _ _ _ (λ e. refl)

  pub base_have : (S : Tables) → AllByRecursion (λ r. P (route_pair r)) S.routes → AllByRecursion P (base_pairs S)
  unfolding base_pairs
  base_have S h =
      let connected = flat_map connected_pairs S.addresses in
      let edges = flat_map (edge_pairs S.addresses) S.addresses in
      each-append P (fixed_pairs ++ connected ++ edges) (map route_pair S.routes)
      (each-append P (fixed_pairs ++ connected) edges
      (each-append P fixed_pairs connected fixed_have (each-flat_map P connected_pairs S.addresses (each-all (λ a. AllByRecursion P (connected_pairs a)) connected_have S.addresses)))
      (each-flat_map P (edge_pairs S.addresses) S.addresses (each-all (λ a. AllByRecursion P (edge_pairs S.addresses a)) (edge_have S.addresses) S.addresses)))
      (each-map P route_pair S.routes h)

  pub pairs_have : (S : Tables) → AllByRecursion (λ r. P (route_pair r)) S.routes → AllByRecursion P (pairs S)
  unfolding pairs all_pairs
  pairs_have S h =
      let hops = flat_map recursive_hops S.routes in
      let neighbors = flat_map (neighbor_pairs S) S.neighbors in
      each-unique P same_pair (base_pairs S ++ neighbors ++ map (derived_pair S) hops)
      (each-append P (base_pairs S ++ neighbors) (map (derived_pair S) hops)
      (each-append P (base_pairs S) neighbors (base_have S h) (each-flat_map P (neighbor_pairs S) S.neighbors (each-all (λ n. AllByRecursion P (neighbor_pairs S n)) (neighbor_have S) S.neighbors)))
      (each-map P (derived_pair S) hops (each-all (λ a. P (derived_pair S a)) (derived_have S) hops)))

-- what holds of all pairs holds of the best pair of a prefix
some_has : (P : Pair → Type 0) (x : Pair) (o : Option Pair) → P x → IfSome o P → P (better x o)
some_has P x None h k = h
some_has P x (Some y) h k = cond_has P _ y x k h

pub best_has : (P : Pair → Type 0) (e : Prefix) (xs : List Pair) → AllByRecursion P xs → IfSome (best_pair e xs) (λ x. P x × (e ≡ x.prefix))
unfolding best_pair
best_has P e [] h = tt
best_has P e (x ∷ xs) h =
    elim (either (same_prefix e x.prefix)) [
      | inl is ↦ rw is (some_has (λ y. P y × (e ≡ y.prefix)) x (best_pair e xs) (h.0, (same_prefix-Decides e x.prefix).0 is) (best_has P e xs h.1))
      | inr isnt ↦ rw isnt (best_has P e xs h.1)
    ]

-- what holds of a longest match
pub longest_has : (P : Prefix → Type 0) → P everything → (a : ℕ) (ps : List Prefix) → AllByRecursion P ps → P (longest a ps)
unfolding longest longer
longest_has P none a [] h = none
longest_has P none a (p ∷ ps) h = cond_has P _ p (longest a ps) h.0 (longest_has P none a ps h.1)

pub cover_short : (S : Tables) (a : ℕ) → (cover S a).len < 32
unfolding cover short_prefixes
cover_short S a =
    let ps = map prefix_of (base_pairs S) in
    longest_has (λ p. p.len < 32) (omega arith) a (filter is_short ps)
    (each-weaker (λ p. Unit {0} × (is_short p ≡ true)) (λ p. p.len < 32) (λ p h. ltb-true p.len 32 h.1) (filter is_short ps)
    (each-filter (λ _. Unit {0}) is_short ps (each-all (λ _. Unit {0}) (λ _. tt) ps)))

-- a pair of sound tables: its list can be shared among buckets, and a Cover belongs to a host
pub record IsSoundPair (x : Pair) : Type 0 where
  pub short : IsShort x.paths
  pub hosts : AllByRecursion (λ p. p.kind ≡ kinds.Cover → x.prefix.len ≡ 32) x.paths

sound_one : (prefix : Prefix) (source : FibSource) (kind : PathKind) → (kind ≡ kinds.Cover → prefix.len ≡ 32) → IsSoundPair (one prefix source kind)
sound_one prefix source kind h = record {
  short = record { few = omega arith; weighted = All-from_recursion (λ p. 0 < p.weight) (plain kind ∷ []) (omega arith, tt) };
  hosts = (h, tt);
}

sound_route : (n : ℕ) (r : Route) → IsSoundRoute n r → IsSoundPair (route_pair r)
sound_route n r h = record {
  short = record { few = h.list.few; weighted = All-from_recursion (λ p. 0 < p.weight) r.paths (each-weaker (IsSoundPath n) (λ p. 0 < p.weight) (λ p k. k.weighted) r.paths h.list.each) };
  hosts = each-weaker (IsSoundPath n) (λ p. p.kind ≡ kinds.Cover → r.prefix.len ≡ 32) (λ p k e. absurd (k.written e)) r.paths h.list.each;
}

pub sound_pairs : (S : Tables) → IsSound S → AllByRecursion IsSoundPair (pairs S)
sound_pairs S h =
    pairs_have IsSoundPair sound_one S (each-weaker (IsSoundRoute (length S.interfaces)) (λ r. IsSoundPair (route_pair r)) (sound_route (length S.interfaces)) S.routes h.routes)

short_of : (e : Prefix) (o : Option Pair) → IfSome o (λ x. IsSoundPair x × (e ≡ x.prefix)) → IsShort (paths_of o)
short_of e None h = record { few = omega arith; weighted = All-from_recursion (λ p. 0 < p.weight) [] tt }
short_of e (Some x) h = h.0.short

hosts_of : (e : Prefix) (o : Option Pair) → IfSome o (λ x. IsSoundPair x × (e ≡ x.prefix)) → AllByRecursion (λ p. p.kind ≡ kinds.Cover → e.len ≡ 32) (paths_of o)
hosts_of e None h = tt
hosts_of e (Some x) h = subst (λ (q : Prefix). AllByRecursion (λ p. p.kind ≡ kinds.Cover → q.len ≡ 32) x.paths) (sym h.1) h.0.hosts

-- buckets can be shared among every chosen list
pub chosen_short : (S : Tables) → IsSound S → (e : Prefix) → IsShort (chosen S e)
unfolding chosen
chosen_short S h e = short_of e (best_pair e (pairs S)) (best_has IsSoundPair e (pairs S) (sound_pairs S h))

-- only a host's chosen list has Cover
pub cover_at_host : (S : Tables) → IsSound S → (e : Prefix) (p : Path) → Contains (chosen S e) p → p.kind ≡ kinds.Cover → e.len ≡ 32
unfolding chosen
cover_at_host S h e p c =
    All-contains (λ q. q.kind ≡ kinds.Cover → e.len ≡ 32) (chosen S e) p (All-from_recursion _ (chosen S e) (hosts_of e (best_pair e (pairs S)) (best_has IsSoundPair e (pairs S) (sound_pairs S h)))) c
