-- Each edit changes the sources of the affected prefixes alone.
use Rattle.std.proofs.Common.{arith, ◌≡◌, ℕ, zero, suc, Bool, true, false, not, ◌||◌, ◌&&◌, ◌==◌, List, [], ◌∷◌, ◌++◌, map, filter, ◌⊎◌, inl, inr, refl, sym, ◌∙◌, ap, subst, ◌↔◌}
use Rattle.std.specs.Prelude.{Contains, flat_map}
use Rattle.std.specs.List.{list_any}
use Rattle.std.proofs.lemmas.Bool.{false≢true}
use Rattle.std.proofs.lemmas.Bool.Decides.{Decides-eqb}
use Rattle.std.proofs.lemmas.List.Elements.{Contains-append_left, Contains-append_right, Contains-append_cases}
use Rattle.fib_base_list.proofs.Lists.{either, Contains-flat_map, Contains-nil}
use Rattle.fib_base_list.proofs.Booleans.{and_both}
use Rattle.fib_addr.specs.Prefixes.{Prefix, same_prefix}
use Rattle.fib_addr.proofs.PrefixLaws.{same_prefix-Decides}
use Rattle.fib_resolve.specs.Keys.{source_rank}
use Rattle.fib_resolve.specs.Pairs.{base_pairs, fixed_pairs, connected_pairs, edge_pairs, route_pair, recursive_hops}
use Rattle.fib_resolve.specs.Tables.{is_route, same_neighbor}
use Rattle.fib_resolve.specs.Edits.{set_route, without_route, route_left, routes_without, set_neighbor, with_routes, with_neighbors}
use Rattle.fib_resolve.specs.Refusals.{has_neighbor}
use Rattle.fib_resolve.specs.declared.pairs.Pair.{Pair}
use Rattle.fib_resolve.specs.declared.types.Path.{Path}
use Rattle.fib_resolve.specs.declared.types.PathSpec.{PathSpec}
use Rattle.fib_resolve.specs.declared.types.FibSource.{FibSource}
use Rattle.fib_resolve.specs.declared.types.Route.{Route}
use Rattle.fib_resolve.specs.declared.types.Neighbor.{Neighbor}
use Rattle.fib_resolve.specs.declared.types.Tables.{Tables}
use Rattle.fib_resolve.proofs.Covering.{filter_in, filter_from}
use Rattle.fib_resolve_changes.specs.Sources.{BaseCaught, HopsCaught, NeighborsCaught}
use Rattle.fib_resolve_changes.specs.Affected.{has_hop}
use Rattle.fib_resolve_changes.proofs.SamePairs.{map_in, map_from, flat_map_from}

pub in_cases : {X : Type 0} (x y : X) (xs : List X) → Contains (x ∷ xs) y → (x ≡ y) ⊎ Contains xs y
in_cases x y xs (zero, lt, is) = inl is
in_cases x y xs (suc k, lt, is) = inr (k, omega (arith, lt), is)

pub in_front : {X : Type 0} (x y : X) (xs : List X) → x ≡ y → Contains (x ∷ xs) y
in_front x y xs is = (0, omega arith, is)

pub in_rest : {X : Type 0} (x y : X) (xs : List X) → Contains xs y → Contains (x ∷ xs) y
in_rest x y xs c = (suc c.0, omega (arith, c.1), c.2)

pub any_in : {X : Type 0} (test : X → Bool) (xs : List X) (x : X) → Contains xs x → test x ≡ true → list_any test xs ≡ true
any_in test [] x c h = absurd (omega (arith, c.1))
any_in test (y ∷ ys) x (zero, lt, is) h = rw (ap test is ∙ h) refl
any_in test (y ∷ ys) x (suc k, lt, is) h = elim (either (test y)) [ inl yes_in ↦ rw yes_in refl | inr not_in ↦ rw not_in (any_in test ys x (k, omega (arith, lt), is) h) ]

pub clash : (b : Bool) → b ≡ true → b ≡ false → ⊥
clash b t f = false≢true (sym f ∙ t)

neither : (b c : Bool) → (b || c) ≡ false → (b ≡ false) × (c ≡ false)
neither true c h = absurd (false≢true (sym h))
neither false c h = (refl, h)

-- routes that agree but at one prefix and source
abbrev RoutesAgree : Prefix → FibSource → List Route → List Route → Type 0
RoutesAgree prefix source rs others = (r : Route) → is_route prefix source r ≡ false → Contains rs r ↔ Contains others r

module _ (S : Tables) (routes : List Route) (prefix : Prefix) (source : FibSource) (agree : RoutesAgree prefix source S.routes routes) where
  away : (r : Route) → same_prefix prefix r.prefix ≡ false → is_route prefix source r ≡ false
  away r quiet = elim (either (is_route prefix source r)) [
    | inl is ↦ absurd (clash (same_prefix prefix r.prefix) ((same_prefix-Decides prefix r.prefix).1 (sym ((same_prefix-Decides r.prefix prefix).0 (and_both _ _ is).0))) quiet)
    | inr isnt ↦ isnt
  ]

  moved : (rs others : List Route) → RoutesAgree prefix source rs others → (x : Pair) → same_prefix prefix x.prefix ≡ false → Contains (map route_pair rs) x → Contains (map route_pair others) x
  moved rs others same x quiet c =
      let r = map_from route_pair rs x c in
      let off = away r.0 (subst (λ (z : Pair). same_prefix prefix z.prefix ≡ false) (sym r.2) quiet) in
      subst (Contains (map route_pair others)) r.2 (map_in route_pair others r.0 ((same r.0 off).0 r.1))

  pub routes_base : BaseCaught S (with_routes S routes) (same_prefix prefix)
  unfolding base_pairs
  routes_base x quiet =
      let front = fixed_pairs ++ flat_map connected_pairs S.addresses ++ flat_map (edge_pairs S.addresses) S.addresses in (
        λ c. elim (Contains-append_cases front (map route_pair S.routes) x c) [
          | inl early ↦ Contains-append_left front (map route_pair routes) x early
          | inr late ↦ Contains-append_right front (map route_pair routes) x (moved S.routes routes agree x quiet late)
        ],
        λ c. elim (Contains-append_cases front (map route_pair routes) x c) [
          | inl early ↦ Contains-append_left front (map route_pair S.routes) x early
          | inr late ↦ Contains-append_right front (map route_pair S.routes) x (moved routes S.routes (λ r off. ((agree r off).1, (agree r off).0)) x quiet late)
        ],
      )

  hop_moved : (rs others : List Route) → RoutesAgree prefix source rs others → (a : ℕ) → has_hop prefix source rs a ≡ false → Contains (flat_map recursive_hops rs) a → Contains (flat_map recursive_hops others) a
  hop_moved rs others same a quiet c =
      let r = flat_map_from recursive_hops rs a c in
      elim (either (is_route prefix source r.0)) [
        | inl is ↦ absurd (clash (has_hop prefix source rs a)
            (any_in (λ z. is_route prefix source z && list_any (λ b. b == a) (recursive_hops z)) rs r.0 r.1 (rw is (any_in (λ b. b == a) (recursive_hops r.0) a r.2 ((Decides-eqb a a).1 refl)))) quiet)
        | inr isnt ↦ Contains-flat_map recursive_hops others r.0 a ((same r.0 isnt).0 r.1) r.2
      ]

  pub routes_hops : HopsCaught S (with_routes S routes) (λ a. has_hop prefix source S.routes a || has_hop prefix source routes a)
  routes_hops a quiet =
      let q = neither (has_hop prefix source S.routes a) (has_hop prefix source routes a) quiet in
      (hop_moved S.routes routes agree a q.0, hop_moved routes S.routes (λ r off. ((agree r off).1, (agree r off).0)) a q.1)

pub is_itself : (new : Route) → is_route new.prefix new.source new ≡ true
is_itself new = rw ((same_prefix-Decides new.prefix new.prefix).1 refl) ((Decides-eqb (source_rank new.source) (source_rank new.source)).1 refl)

pub set_agrees : (new : Route) (rs : List Route) → RoutesAgree new.prefix new.source rs (set_route new rs)
set_agrees new [] r off = (
  λ c. absurd (Contains-nil r c),
  λ c. elim (in_cases new r [] c) [
    | inl is ↦ absurd (clash (is_route new.prefix new.source r) (subst (λ z. is_route new.prefix new.source z ≡ true) is (is_itself new)) off)
    | inr none ↦ none
  ],
)
set_agrees new (q ∷ qs) r off =
    elim (either (is_route new.prefix new.source q)) [
      | inl is ↦ rw is (
        λ c. elim (in_cases q r qs c) [
          | inl same ↦ absurd (clash (is_route new.prefix new.source r) (subst (λ z. is_route new.prefix new.source z ≡ true) same is) off)
          | inr later ↦ in_rest new r qs later
        ],
        λ c. elim (in_cases new r qs c) [
          | inl same ↦ absurd (clash (is_route new.prefix new.source r) (subst (λ z. is_route new.prefix new.source z ≡ true) same (is_itself new)) off)
          | inr later ↦ in_rest q r qs later
        ],
      )
      | inr isnt ↦ rw isnt (
        λ c. elim (in_cases q r qs c) [ inl same ↦ in_front q r (set_route new qs) same | inr later ↦ in_rest q r (set_route new qs) ((set_agrees new qs r off).0 later) ],
        λ c. elim (in_cases q r (set_route new qs) c) [ inl same ↦ in_front q r qs same | inr later ↦ in_rest q r qs ((set_agrees new qs r off).1 later) ],
      )
    ]

pub without_agrees : (prefix : Prefix) (source : FibSource) (rs : List Route) → RoutesAgree prefix source rs (without_route prefix source rs)
without_agrees prefix source rs r off = (
  λ c. filter_in (λ z. not (is_route prefix source z)) rs r c (ap not off),
  λ c. (filter_from (λ z. not (is_route prefix source z)) rs r c).0,
)

pub left_agrees : (prefix : Prefix) (source : FibSource) (ps : List Path) (rs : List Route) → RoutesAgree prefix source rs (route_left prefix source ps rs)
left_agrees prefix source [] rs = without_agrees prefix source rs
left_agrees prefix source (p ∷ ps) rs = set_agrees (record { prefix = prefix; source = source; paths = p ∷ ps }) rs

pub deleted_agrees : (S : Tables) (prefix : Prefix) (source : FibSource) (specs : List PathSpec) → RoutesAgree prefix source S.routes (routes_without S prefix source specs)
deleted_agrees S prefix source [] = without_agrees prefix source S.routes
deleted_agrees S prefix source (spec ∷ specs) = left_agrees prefix source _ S.routes

-- neighbors
other_neighbor : (n m : Neighbor) (a : ℕ) → m.addr ≡ a → (n.addr == a) ≡ false → same_neighbor m n ≡ false
other_neighbor n m a at off = elim (either (same_neighbor m n)) [
  | inl is ↦ absurd (clash (n.addr == a) ((Decides-eqb n.addr a).1 (sym ((Decides-eqb m.addr n.addr).0 (and_both _ _ is).1) ∙ at)) off)
  | inr isnt ↦ isnt
]

HasIn : List Neighbor → ℕ → ℕ → Type 0
HasIn ns i a = (n : Neighbor) × Contains ns n × (n.interface ≡ i) × (n.addr ≡ a)

later_in : (m : Neighbor) (ms : List Neighbor) (i a : ℕ) → HasIn ms i a → HasIn (m ∷ ms) i a
unfolding HasIn
later_in m ms i a h = (h.0, in_rest m h.0 ms h.1, h.2, h.3)

-- setting a neighbor touches its address alone
set_elsewhere : (n : Neighbor) (ms : List Neighbor) (i a : ℕ) → (n.addr == a) ≡ false → HasIn ms i a ↔ HasIn (set_neighbor n ms) i a
unfolding HasIn
set_elsewhere n [] i a off = (
  λ h. absurd (Contains-nil h.0 h.1),
  λ h. elim (in_cases n h.0 [] h.1) [
    | inl is ↦ absurd (clash (n.addr == a) ((Decides-eqb n.addr a).1 (ap (λ z. z.addr) is ∙ h.3)) off)
    | inr none ↦ absurd (Contains-nil h.0 none)
  ],
)
set_elsewhere n (m ∷ ms) i a off =
    elim (either (same_neighbor m n)) [
      | inl is ↦ rw is (
        λ h. elim (in_cases m h.0 ms h.1) [
          | inl same ↦ absurd (clash (same_neighbor m n) is (other_neighbor n m a (ap (λ z. z.addr) same ∙ h.3) off))
          | inr later ↦ (h.0, in_rest n h.0 ms later, h.2, h.3)
        ],
        λ h. elim (in_cases n h.0 ms h.1) [
          | inl same ↦ absurd (clash (n.addr == a) ((Decides-eqb n.addr a).1 (ap (λ z. z.addr) same ∙ h.3)) off)
          | inr later ↦ (h.0, in_rest m h.0 ms later, h.2, h.3)
        ],
      )
      | inr isnt ↦ rw isnt (
        λ h. elim (in_cases m h.0 ms h.1) [
          | inl same ↦ (h.0, in_front m h.0 (set_neighbor n ms) same, h.2, h.3)
          | inr later ↦ (let r = (set_elsewhere n ms i a off).0 (h.0, later, h.2, h.3) in (r.0, in_rest m r.0 (set_neighbor n ms) r.1, r.2, r.3))
        ],
        λ h. elim (in_cases m h.0 (set_neighbor n ms) h.1) [
          | inl same ↦ (h.0, in_front m h.0 ms same, h.2, h.3)
          | inr later ↦ (let r = (set_elsewhere n ms i a off).1 (h.0, later, h.2, h.3) in (r.0, in_rest m r.0 ms r.1, r.2, r.3))
        ],
      )
    ]

-- and where the neighbor is there, none at all: only its MAC is another
set_again : (n : Neighbor) (ms : List Neighbor) (i a : ℕ) → list_any (λ m. same_neighbor m n) ms ≡ true → HasIn ms i a ↔ HasIn (set_neighbor n ms) i a
unfolding HasIn
set_again n [] i a there = absurd (false≢true there)
set_again n (m ∷ ms) i a there =
    elim (either (same_neighbor m n)) [
      | inl is ↦ (let both = and_both (m.interface == n.interface) (m.addr == n.addr) is in
          let on = (Decides-eqb m.interface n.interface).0 both.0 in
          let at = (Decides-eqb m.addr n.addr).0 both.1 in
          rw is (
            λ h. elim (in_cases m h.0 ms h.1) [
              | inl same ↦ (n, in_front n n ms refl, sym on ∙ ap (λ z. z.interface) same ∙ h.2, sym at ∙ ap (λ z. z.addr) same ∙ h.3)
              | inr later ↦ (h.0, in_rest n h.0 ms later, h.2, h.3)
            ],
            λ h. elim (in_cases n h.0 ms h.1) [
              | inl same ↦ (m, in_front m m ms refl, on ∙ ap (λ z. z.interface) same ∙ h.2, at ∙ ap (λ z. z.addr) same ∙ h.3)
              | inr later ↦ (h.0, in_rest m h.0 ms later, h.2, h.3)
            ],
          ))
      | inr isnt ↦ (let rest = rw isnt at there in rw isnt (
        λ h. elim (in_cases m h.0 ms h.1) [
          | inl same ↦ (h.0, in_front m h.0 (set_neighbor n ms) same, h.2, h.3)
          | inr later ↦ (let r = (set_again n ms i a rest).0 (h.0, later, h.2, h.3) in (r.0, in_rest m r.0 (set_neighbor n ms) r.1, r.2, r.3))
        ],
        λ h. elim (in_cases m h.0 (set_neighbor n ms) h.1) [
          | inl same ↦ (h.0, in_front m h.0 ms same, h.2, h.3)
          | inr later ↦ (let r = (set_again n ms i a rest).1 (h.0, later, h.2, h.3) in (r.0, in_rest m r.0 ms r.1, r.2, r.3))
        ],
      ))
    ]

pub set_near : (S : Tables) (n : Neighbor) → NeighborsCaught S (with_neighbors S (set_neighbor n S.neighbors)) (λ a. not (has_neighbor S n) && (n.addr == a))
unfolding HasIn
set_near S n a i quiet =
    elim (either (has_neighbor S n)) [
      | inl there ↦ set_again n S.neighbors i a there
      | inr new ↦ set_elsewhere n S.neighbors i a (sym (ap (λ b. not b && (n.addr == a)) new) ∙ quiet)
    ]

pub deleted_near : (S : Tables) (n : Neighbor) → NeighborsCaught S (with_neighbors S (filter (λ m. not (same_neighbor m n)) S.neighbors)) (λ a. n.addr == a)
deleted_near S n a i quiet = (
  λ h. (h.0, filter_in (λ m. not (same_neighbor m n)) S.neighbors h.0 h.1 (ap not (other_neighbor n h.0 a h.3 quiet)), h.2, h.3),
  λ h. (h.0, (filter_from (λ m. not (same_neighbor m n)) S.neighbors h.0 h.1).0, h.2, h.3),
)
