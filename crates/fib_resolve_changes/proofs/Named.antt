-- What changes name are all whose sources can be others.
use Rattle.std.proofs.Common.{arith, ◌≡◌, ℕ, true, false, ◌&&◌, ◌==◌, List, [], ◌∷◌, ◌++◌, map, Option, Some, None, inl, inr, refl, sym, ◌∙◌, ap, subst, ◌↔◌}
use Rattle.std.specs.Prelude.{Contains, flat_map, find, option_map}
use Rattle.std.specs.List.{list_any}
use Rattle.std.proofs.lemmas.Bool.Decides.{Decides-eqb}
use Rattle.std.proofs.lemmas.List.Elements.{Contains-append_left, Contains-append_right, Contains-append_cases}
use Rattle.fib_base_list.proofs.Lists.{either, Contains-flat_map, Contains-nil}
use Rattle.fib_base_list.proofs.Booleans.{and_both, or_left, or_right}
use Rattle.fib_addr.specs.Prefixes.{Prefix, host, same_prefix}
use Rattle.fib_addr.proofs.PrefixLaws.{same_prefix-Decides}
use Rattle.fib_resolve.specs.Pairs.{base_pairs, fixed_pairs, connected_pairs, edge_pairs, edge_pair, edge_addresses, is_address, route_pair, recursive_hops}
use Rattle.fib_resolve.specs.Resolution.{mac_of, is_neighbor}
use Rattle.fib_resolve.specs.Tables.{is_route}
use Rattle.fib_resolve.specs.declared.pairs.Pair.{Pair}
use Rattle.fib_resolve.specs.declared.types.Address.{Address}
use Rattle.fib_resolve.specs.declared.types.Neighbor.{Neighbor}
use Rattle.fib_resolve.specs.declared.types.Route.{Route}
use Rattle.fib_resolve.specs.declared.types.Tables.{Tables}
use Rattle.fib_resolve_changes.specs.Affected.{is_own, has_hop}
use Rattle.fib_resolve_changes.specs.Differ.{Differ}
use Rattle.fib_resolve_changes.specs.Named.{own_at, hop_at, near_at, own_in, hop_in, near_in}
use Rattle.fib_resolve_changes.specs.Sources.{HasNeighbor, BaseCaught, HopsCaught, NeighborsCaught, all_hops}
use Rattle.fib_resolve_changes.specs.declared.change.Change.{Change}
use Rattle.fib_resolve_changes.specs.declared.change.Change.TheVariants as changes
use Rattle.fib_resolve_changes.proofs.Addresses.{its_own, connected_own, edge_of, edge_in, edges_own}
use Rattle.fib_resolve_changes.proofs.CauseLaws.{any_from}
use Rattle.fib_resolve_changes.proofs.Edits.{in_cases, in_front, in_rest, any_in, clash, is_itself}
use Rattle.fib_resolve_changes.proofs.SamePairs.{flat_map_from, map_in, map_from}

none_some : {X : Type 0} (x : X) → None ≡ Some x → ⊥
none_some x e = (cc)

-- neighbors by their MACs
pub has_found : (i a : ℕ) (ns : List Neighbor) (n : Neighbor) → Contains ns n → n.interface ≡ i → n.addr ≡ a → (m : Neighbor) × (find (is_neighbor i a) ns ≡ Some m)
has_found i a [] n c on at = absurd (Contains-nil n c)
has_found i a (m ∷ ms) n c on at = elim (either (is_neighbor i a m)) [
  | inl is ↦ (m, rw is refl)
  | inr isnt ↦ elim (in_cases m n ms c) [
    | inl same ↦ absurd (clash (is_neighbor i a m) (rw ((Decides-eqb m.interface i).1 (ap (λ z. z.interface) same ∙ on)) ((Decides-eqb m.addr a).1 (ap (λ z. z.addr) same ∙ at))) isnt)
    | inr later ↦ (let r = has_found i a ms n later on at in (r.0, rw isnt r.1))
  ]
]

pub found_has : (i a : ℕ) (ns : List Neighbor) (m : Neighbor) → find (is_neighbor i a) ns ≡ Some m → (n : Neighbor) × Contains ns n × (n.interface ≡ i) × (n.addr ≡ a)
found_has i a [] m e = absurd (none_some m e)
found_has i a (n ∷ ns) m e = elim (either (is_neighbor i a n)) [
  | inl is ↦ (let both = and_both (n.interface == i) (n.addr == a) is in (n, in_front n n ns refl, (Decides-eqb n.interface i).0 both.0, (Decides-eqb n.addr a).0 both.1))
  | inr isnt ↦ (let r = found_has i a ns m (rw isnt at e) in (r.0, in_rest n r.0 ns r.1, r.2, r.3))
]

near_half : (S T : Tables) (i a : ℕ) → mac_of S i a ≡ mac_of T i a → HasNeighbor S i a → HasNeighbor T i a
near_half S T i a same h =
    let f = has_found i a S.neighbors h.0 h.1 h.2 h.3 in
    by (find (is_neighbor i a) T.neighbors) refl f.0 f.1
  where
    by : (o : Option Neighbor) → find (is_neighbor i a) T.neighbors ≡ o → (m : Neighbor) → find (is_neighbor i a) S.neighbors ≡ Some m → HasNeighbor T i a
    by None is m was = absurd (none_some m.mac (sym (ap (option_map (λ z. z.mac)) is) ∙ (sym same ∙ ap (option_map (λ z. z.mac)) was)))
    by (Some k) is m was = found_has i a T.neighbors k is

module _ (list : List Change) (all others : List Address) (agree : (b : Address) → (Contains list (changes.Address b) → ⊥) → Contains all b ↔ Contains others b) where
  unnamed : (b : Address) (q : Prefix) → is_own b q ≡ true → own_in list q ≡ false → Contains list (changes.Address b) → ⊥
  unnamed b q own quiet named = clash (own_in list q) (any_in (own_at q) list (changes.Address b) named own) quiet

  connected_moved : (x : Pair) → own_in list x.prefix ≡ false → Contains (flat_map connected_pairs all) x → Contains (flat_map connected_pairs others) x
  connected_moved x quiet c =
      let r = flat_map_from connected_pairs all x c in
      Contains-flat_map connected_pairs others r.0 x ((agree r.0 (unnamed r.0 x.prefix (connected_own r.0 x r.2) quiet)).0 r.1) r.2

  still_none : (y : ℕ) → own_in list (host y) ≡ false → is_address all y ≡ false → is_address others y ≡ false
  still_none y quiet none = elim (either (is_address others y)) [
    | inr isnt ↦ isnt
    | inl is ↦ (let b = any_from (λ z. z.addr == y) others is in
        let own = its_own b.0 (host b.0.addr) (host y) (1, omega arith, refl) (ap host ((Decides-eqb b.0.addr y).0 b.2)) in
        absurd (clash (is_address all y) (any_in (λ z. z.addr == y) all b.0 ((agree b.0 (unnamed b.0 (host y) own quiet)).1 b.1) b.2) none))
  ]

  edges_moved : (x : Pair) → own_in list x.prefix ≡ false → Contains (flat_map (edge_pairs all) all) x → Contains (flat_map (edge_pairs others) others) x
  edges_moved x quiet c =
      let r = flat_map_from (edge_pairs all) all x c in
      let e = flat_map_from (edge_pair all) (edge_addresses r.0) x r.2 in
      let p = edge_of all e.0 x e.2 in
      let silent : own_in list (host e.0) ≡ false = subst (λ (z : Pair). own_in list z.prefix ≡ false) (sym p.1) quiet in
      Contains-flat_map (edge_pairs others) others r.0 x ((agree r.0 (unnamed r.0 (host e.0) (edges_own r.0 e.0 e.1) silent)).0 r.1)
      (Contains-flat_map (edge_pair others) (edge_addresses r.0) e.0 x e.1 (edge_in others e.0 x (still_none e.0 silent p.0) p.1))

routes_moved : (list : List Change) (rs others : List Route) → ((r : Route) → (Contains list (changes.Route r.prefix r.source) → ⊥) → Contains rs r ↔ Contains others r) → (x : Pair) → own_in list x.prefix ≡ false
    → Contains (map route_pair rs) x → Contains (map route_pair others) x
routes_moved list rs others agree x quiet c =
    let r = map_from route_pair rs x c in
    let same : same_prefix r.0.prefix x.prefix ≡ true = (same_prefix-Decides r.0.prefix x.prefix).1 (ap (λ (z : Pair). z.prefix) r.2) in
    subst (Contains (map route_pair others)) r.2 (map_in route_pair others r.0
    ((agree r.0 (λ named. clash (own_in list x.prefix) (any_in (own_at x.prefix) list (changes.Route r.0.prefix r.0.source) named same) quiet)).0 r.1))

turned : (list : List Change) (S T : Tables) → Differ list S T → Differ list T S
turned list S T d = record {
  flags = λ i off. sym (d.flags i off);
  addresses = λ a off. ((d.addresses a off).1, (d.addresses a off).0);
  neighbors = λ i a off. sym (d.neighbors i a off);
  routes = λ r off. ((d.routes r off).1, (d.routes r off).0);
}

base_half : (list : List Change) (S T : Tables) → Differ list S T → (x : Pair) → own_in list x.prefix ≡ false → Contains (base_pairs S) x → Contains (base_pairs T) x
unfolding base_pairs
base_half list S T d x quiet c =
    let before = fixed_pairs ++ flat_map connected_pairs S.addresses ++ flat_map (edge_pairs S.addresses) S.addresses in
    let after = fixed_pairs ++ flat_map connected_pairs T.addresses ++ flat_map (edge_pairs T.addresses) T.addresses in
    elim (Contains-append_cases before (map route_pair S.routes) x c) [
      | inr late ↦ Contains-append_right after (map route_pair T.routes) x (routes_moved list S.routes T.routes d.routes x quiet late)
      | inl early ↦ Contains-append_left after (map route_pair T.routes) x (elim (Contains-append_cases (fixed_pairs ++ flat_map connected_pairs S.addresses) (flat_map (edge_pairs S.addresses) S.addresses) x early) [
        | inr edge ↦ Contains-append_right (fixed_pairs ++ flat_map connected_pairs T.addresses) _ x (edges_moved list S.addresses T.addresses d.addresses x quiet edge)
        | inl front ↦ Contains-append_left (fixed_pairs ++ flat_map connected_pairs T.addresses) _ x (elim (Contains-append_cases fixed_pairs (flat_map connected_pairs S.addresses) x front) [
          | inl fixed ↦ Contains-append_left fixed_pairs _ x fixed
          | inr near ↦ Contains-append_right fixed_pairs _ x (connected_moved list S.addresses T.addresses d.addresses x quiet near)
        ])
      ])
    ]

has_itself : (rs : List Route) (r : Route) (a : ℕ) → Contains rs r → Contains (recursive_hops r) a → has_hop r.prefix r.source rs a ≡ true
has_itself rs r a c h = any_in (λ z. is_route r.prefix r.source z && list_any (λ b. b == a) (recursive_hops z)) rs r c (rw (is_itself r) (any_in (λ b. b == a) (recursive_hops r) a h ((Decides-eqb a a).1 refl)))

hops_half : (S T : Tables) (list : List Change) (a : ℕ) → ((r : Route) → (Contains list (changes.Route r.prefix r.source) → ⊥) → Contains S.routes r → Contains T.routes r)
    → ((r : Route) → Contains S.routes r → Contains (recursive_hops r) a → Contains list (changes.Route r.prefix r.source) → ⊥) → Contains (all_hops S) a → Contains (all_hops T) a
hops_half S T list a stays off c =
    let r = flat_map_from recursive_hops S.routes a c in
    Contains-flat_map recursive_hops T.routes r.0 a (stays r.0 (off r.0 r.1 r.2) r.1) r.2

pub base_named : (list : List Change) (S T : Tables) → Differ list S T → BaseCaught S T (own_in list)
base_named list S T d x quiet = (base_half list S T d x quiet, base_half list T S (turned list S T d) x quiet)

pub hops_named : (list : List Change) (S T : Tables) → Differ list S T → HopsCaught S T (hop_in list S T)
hops_named list S T d a quiet = (
  hops_half S T list a (λ r off. (d.routes r off).0) (λ r c h named. clash (hop_in list S T a) (any_in (hop_at S T a) list (changes.Route r.prefix r.source) named (or_left _ _ (has_itself S.routes r a c h))) quiet),
  hops_half T S list a (λ r off. (d.routes r off).1) (λ r c h named. clash (hop_in list S T a) (any_in (hop_at S T a) list (changes.Route r.prefix r.source) named (or_right _ _ (has_itself T.routes r a c h))) quiet),
)

pub near_named : (list : List Change) (S T : Tables) → Differ list S T → NeighborsCaught S T (near_in list)
near_named list S T d a i quiet =
    let same = d.neighbors i a (λ named. clash (near_in list a) (any_in (near_at a) list (changes.Neighbor i a) named ((Decides-eqb a a).1 refl)) quiet) in
    (near_half S T i a same, near_half T S i a (sym same))

pub named_catch : (list : List Change) (S T : Tables) → Differ list S T → BaseCaught S T (own_in list) × HopsCaught S T (hop_in list S T) × NeighborsCaught S T (near_in list)
named_catch list S T d = (base_named list S T d, hops_named list S T d, near_named list S T d)
