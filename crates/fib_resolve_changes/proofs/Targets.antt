-- Each edge leads to an entry.
use Rattle.std.proofs.Common.{is_some, arith, ◌≡◌, ℕ, suc, true, cond, List, [], ◌∷◌, Option, Some, None, inl, inr, refl, sym, ◌∙◌, ap, subst}
use Rattle.std.specs.Prelude.{Contains, nat_lt, IfSome, filter_map}
use Rattle.std.specs.List.{AllByRecursion}
use Rattle.std.specs.Set.{is_member}
use Rattle.std.proofs.lemmas.Bool.{false≢true}
use Rattle.std.proofs.lemmas.Bool.Decides.{Decides-eqb}
use Rattle.std.proofs.lemmas.Map.Views.{Contains-from_any}
use Rattle.fib_base_list.proofs.Lists.{Contains-flat_map, Contains-nil}
use Rattle.fib_addr.specs.Prefixes.{Prefix, host, masked, same_prefix}
use Rattle.fib_addr.proofs.PrefixLaws.{same_prefix-Decides}
use Rattle.fib_resolve.specs.Pairs.{pairs, entries, chosen, cover, best_pair, paths_of, derived_pair, recursive_kind, recursive_of, recursive_hops, plain, route_pair, fixed_pairs, connected_pairs, edge_pairs, edge_pair, edge_addresses, is_address, neighbor_pairs, one, short_prefixes, attached_by, is_interface, derived_kind}
use Rattle.fib_resolve.specs.Loops.{targets, kind_targets}
use Rattle.fib_resolve.specs.declared.pairs.Pair.{Pair}
use Rattle.fib_resolve.specs.declared.types.Path.{Path}
use Rattle.fib_resolve.specs.declared.types.PathKind.{PathKind}
use Rattle.fib_resolve.specs.declared.types.PathKind.TheVariants as kinds
use Rattle.fib_resolve.specs.declared.types.FibSource.{FibSource}
use Rattle.fib_resolve.specs.declared.types.FibSource.TheVariants as sources
use Rattle.fib_addr.specs.Longest.{everything}
use Rattle.fib_resolve.specs.declared.types.Route.{Route}
use Rattle.fib_resolve.specs.declared.types.Address.{Address}
use Rattle.fib_resolve.specs.declared.types.Neighbor.{Neighbor}
use Rattle.fib_resolve.specs.declared.types.Tables.{Tables}
use Rattle.fib_resolve.proofs.Entries.{is_entry}
use Rattle.fib_resolve.proofs.OneList.{groups_have, one_if, one_unless}
use Rattle.fib_resolve.proofs.PairLaws.{best_has, longest_has, each-all}
use Rattle.fib_base_list.proofs.Lists.{each-flat_map, each-append}
use Rattle.fib_resolve_changes.specs.Sources.{HasNeighbor, all_hops}
use Rattle.fib_resolve_changes.proofs.SamePairs.{from_origin, base, derived, flat_map_from, neighbor}
use Rattle.fib_resolve_changes.proofs.Edits.{any_in, in_cases}
use Rattle.fib_resolve_changes.proofs.Covers.{short_from, whole_there}

-- the recursive paths of the pair lead to next hops of routes
HopsListed : Tables → Pair → Type 0
HopsListed S x = (p : Path) (a : ℕ) → Contains x.paths p → p.kind ≡ kinds.Recursive a → Contains (all_hops S) a

some_is : (x y : ℕ) → Some x ≡ Some y → x ≡ y
some_is x y e = (cc)

hop_some : (k : PathKind) (a : ℕ) → recursive_kind k ≡ None → k ≡ kinds.Recursive a → ⊥
hop_some k a none is = false≢true (ap is_some (sym none ∙ ap recursive_kind is))

-- a pair of one plain path of another kind
plain_listed : (S : Tables) (prefix : Prefix) (source : FibSource) (kind : PathKind) → recursive_kind kind ≡ None → HopsListed S (one prefix source kind)
unfolding HopsListed
plain_listed S prefix source kind none p a c is = elim (in_cases (plain kind) p [] c) [
  | inl same ↦ absurd (hop_some kind a none (ap (λ z. z.kind) same ∙ is))
  | inr nothing ↦ absurd (Contains-nil p nothing)
]

hop_in : (ps : List Path) (p : Path) (a : ℕ) → Contains ps p → p.kind ≡ kinds.Recursive a → Contains (filter_map recursive_of ps) a
hop_in [] p a c is = absurd (Contains-nil p c)
hop_in (q ∷ qs) p a c is = by (hop_in qs p a) (recursive_kind q.kind) refl
  where
    by : (Contains qs p → p.kind ≡ kinds.Recursive a → Contains (filter_map recursive_of qs) a) → (o : Option ℕ) → recursive_kind q.kind ≡ o → Contains (filter_map recursive_of (q ∷ qs)) a
    by more None e = rw e (elim (in_cases q p qs c) [
      | inl same ↦ absurd (hop_some q.kind a e (ap (λ z. z.kind) same ∙ is))
      | inr later ↦ more later is
    ])
    by more (Some b) e = rw e (elim (in_cases q p qs c) [
      | inl same ↦ (0, omega arith, some_is b a (sym e ∙ ap recursive_kind (ap (λ z. z.kind) same ∙ is)))
      | inr later ↦ (let r = more later is in (suc r.0, omega (arith, r.1), r.2))
    ])

route_listed : (S : Tables) (r : Route) → Contains S.routes r → HopsListed S (route_pair r)
unfolding HopsListed
route_listed S r c p a at is = Contains-flat_map recursive_hops S.routes r a c (hop_in r.paths p a at is)

connected_listed : (S : Tables) (a : Address) → AllByRecursion (HopsListed S) (connected_pairs a)
connected_listed S a = each-append (HopsListed S) _ _ (one_if (HopsListed S) (nat_lt a.len 32) _ (λ _. plain_listed S (masked a.addr a.len) sources.Interface (kinds.Attached a.interface) refl)) (plain_listed S (host a.addr) sources.Interface kinds.Local refl, tt)

edge_listed : (S : Tables) (a : Address) → AllByRecursion (HopsListed S) (edge_pairs S.addresses a)
edge_listed S a = each-flat_map (HopsListed S) (edge_pair S.addresses) (edge_addresses a)
    (each-all (λ y. AllByRecursion (HopsListed S) (edge_pair S.addresses y)) (λ y. one_unless (HopsListed S) (is_address S.addresses y) _ (λ _. plain_listed S (host y) sources.Interface kinds.Drop refl)) (edge_addresses a))

neighbor_listed : (S : Tables) (n : Neighbor) → AllByRecursion (HopsListed S) (neighbor_pairs S n)
unfolding neighbor_pairs
neighbor_listed S n = one_if (HopsListed S) (is_interface (attached_by S n.addr) n.interface) _ (λ _. plain_listed S (host n.addr) sources.Adjacency (kinds.Hop n.addr n.interface) refl)

derived_listed : (S : Tables) (a : ℕ) → HopsListed S (derived_pair S a)
unfolding derived_pair
derived_listed S a = by (attached_by S a)
  where
    by : (o : Option ℕ) → HopsListed S (one (host a) sources.RecursiveResolution (derived_kind a o))
    by None = plain_listed S (host a) sources.RecursiveResolution kinds.Cover refl
    by (Some i) = plain_listed S (host a) sources.RecursiveResolution (kinds.Hop a i) refl

fixed_listed : (S : Tables) → AllByRecursion (HopsListed S) fixed_pairs
fixed_listed S = (
  plain_listed S everything sources.DefaultRoute kinds.Drop refl,
  (
    plain_listed S (host 0) sources.Special kinds.Drop refl,
    (
      plain_listed S (record { bits = 0xe0000000; len = 4 }) sources.Special kinds.Drop refl,
      (
        plain_listed S (record { bits = 0xf0000000; len = 4 }) sources.Special kinds.Drop refl,
        (
          plain_listed S (host 0xffffffff) sources.Special kinds.Drop refl,
          tt,
        ),
      ),
    ),
  ),
)

-- a recursive path of a chosen list leads to a next hop of a route
pub chosen_hop : (S : Tables) (e : Prefix) (p : Path) (a : ℕ) → Contains (chosen S e) p → p.kind ≡ kinds.Recursive a → Contains (all_hops S) a
unfolding chosen HopsListed
chosen_hop S e p a c is =
    by (best_pair e (pairs S)) (best_has (HopsListed S) e (pairs S) (groups_have (HopsListed S) S (fixed_listed S) (λ x _. connected_listed S x) (edge_listed S) (route_listed S) (neighbor_listed S) (derived_listed S))) c
  where
    by : (o : Option Pair) → IfSome o (λ x. HopsListed S x × (e ≡ x.prefix)) → Contains (paths_of o) p → Contains (all_hops S) a
    by None h c = absurd (Contains-nil p c)
    by (Some x) h c = h.0 p a c is

-- a prefix of a pair is an entry
pub pair_entry : (S : Tables) (x : Pair) (e : Prefix) → Contains (pairs S) x → x.prefix ≡ e → is_member same_prefix (entries S) e ≡ true
pair_entry S x e c is = is_entry S e ∙ any_in (λ y. same_prefix e y.prefix) (pairs S) x c ((same_prefix-Decides e x.prefix).1 (sym is))

pub hop_entry : (S : Tables) (a : ℕ) → Contains (all_hops S) a → is_member same_prefix (entries S) (host a) ≡ true
unfolding derived_pair
hop_entry S a c = pair_entry S (derived_pair S a) (host a) (from_origin S (derived_pair S a) (derived a c refl)) refl

-- the pair of a neighbor that is attached
pub near_there : (S : Tables) (n : Neighbor) (i : ℕ) → n.interface ≡ i → attached_by S n.addr ≡ Some i
    → Contains (neighbor_pairs S n) (one (host n.addr) sources.Adjacency (kinds.Hop n.addr n.interface))
unfolding neighbor_pairs
near_there S n i same at =
    let is : is_interface (attached_by S n.addr) n.interface ≡ true = ap (λ o. is_interface o n.interface) (at ∙ ap Some (sym same))
    ∙ (Decides-eqb n.interface n.interface).1 refl in
    subst (λ b. Contains (cond b (one (host n.addr) sources.Adjacency (kinds.Hop n.addr n.interface) ∷ []) [])
    (one (host n.addr) sources.Adjacency (kinds.Hop n.addr n.interface)))
    (sym is) (0, omega arith, refl)

-- its host is an entry
pub near_entry : (S : Tables) (i a : ℕ) → HasNeighbor S i a → attached_by S a ≡ Some i → Contains (entries S) (host a)
near_entry S i a near at =
    let n = near.0 in
    let x = one (host n.addr) sources.Adjacency (kinds.Hop n.addr n.interface) in
    let there = near_there S n i near.2 (ap (attached_by S) near.3 ∙ at) in
    Contains-from_any (λ x y. (same_prefix-Decides x y).0) (host a) (entries S)
    (pair_entry S x (host a) (from_origin S x (neighbor n near.1 there)) (ap host near.3))

pub cover_entry : (S : Tables) (a : ℕ) → is_member same_prefix (entries S) (cover S a) ≡ true
unfolding cover
cover_entry S a =
    longest_has (λ q. is_member same_prefix (entries S) q ≡ true) (short_entry S everything (whole_there S)) a (short_prefixes S) (each_in (λ q. is_member same_prefix (entries S) q ≡ true) (short_prefixes S) (short_entry S))
  where
    short_entry : (S : Tables) (q : Prefix) → Contains (short_prefixes S) q → is_member same_prefix (entries S) q ≡ true
    short_entry S q c = let r = short_from S q c in pair_entry S r.0 q (from_origin S r.0 (base r.1)) r.2

    each_in : (P : Prefix → Type 0) (qs : List Prefix) → ((q : Prefix) → Contains qs q → P q) → AllByRecursion P qs
    each_in P [] h = tt
    each_in P (q ∷ qs) h = (h q (0, omega arith, refl), each_in P qs (λ z c. h z (suc c.0, omega (arith, c.1), c.2)))

-- each edge leads to an entry
pub target_entry : (S : Tables) (e t : Prefix) (p : Path) → Contains (chosen S e) p → Contains (kind_targets S e p.kind) t → is_member same_prefix (entries S) t ≡ true
target_entry S e t p c at = by p.kind refl at
  where
    by : (k : PathKind) → p.kind ≡ k → Contains (kind_targets S e k) t → is_member same_prefix (entries S) t ≡ true
    by (kinds.Recursive a) is there = elim (in_cases (host a) t [] there) [ inl same ↦ subst (λ z. is_member same_prefix (entries S) z ≡ true) same (hop_entry S a (chosen_hop S e p a c is)) | inr none ↦ absurd (Contains-nil t none) ]
    by kinds.Cover is there = elim (in_cases (cover S e.bits) t [] there) [ inl same ↦ subst (λ z. is_member same_prefix (entries S) z ≡ true) same (cover_entry S e.bits) | inr none ↦ absurd (Contains-nil t none) ]
    by kinds.Drop is there = absurd (Contains-nil t there)
    by kinds.Local is there = absurd (Contains-nil t there)
    by (kinds.Attached i) is there = absurd (Contains-nil t there)
    by (kinds.Hop a i) is there = absurd (Contains-nil t there)

pub edge_entry : (S : Tables) (e t : Prefix) → Contains (targets S e) t → Contains (entries S) t
unfolding targets
edge_entry S e t c =
    let r = flat_map_from (λ p. kind_targets S e p.kind) (chosen S e) t c in
    Contains-from_any (λ x y. (same_prefix-Decides x y).0) t (entries S) (target_entry S e t r.0 r.1 r.2)
