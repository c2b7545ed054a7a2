-- An edit raises the allowance of tables by at most its growth.
use Rattle.std.proofs.Common.{arith, ◌≡◌, ℕ, suc, ◌+◌, ◌-◌, ◌*◌, ◌≤◌, ◌⊎◌, Bool, true, List, [], ◌∷◌, ◌++◌, map, filter, length, not, inl, inr, refl, sym, ◌∙◌, ap, subst}
use Rattle.std.specs.Prelude.{Contains, flat_map, filter_map, Decides}
use Rattle.std.specs.List.{cons_option}
use Rattle.std.specs.Set.{is_member, distinct_count}
use Rattle.std.specs.Cmp.{decided}
use Rattle.std.proofs.lemmas.Map.Made.{is_member-Decides}
use Rattle.std.proofs.lemmas.List.{length-append}
use Rattle.std.proofs.lemmas.List.FromFn.{length-map-range_with_len}
use Rattle.std.proofs.lemmas.List.Elements.{Contains-append_left, Contains-append_right, Contains-append_cases}
use Rattle.fib_base_list.proofs.Lists.{either, each-weaker, Contains-flat_map, Contains-nil}
use Rattle.fib_base_list.proofs.Booleans.{and_both}
use Rattle.fib_addr.specs.Prefixes.{Prefix, same_prefix, host, masked, size_of}
use Rattle.fib_addr.specs.Longest.{everything}
use Rattle.fib_addr.proofs.PrefixLaws.{same_prefix-Decides}
use Rattle.fib_resolve.specs.Pairs.{fixed_pairs, prefix_of, recursive_of, recursive_kind, recursive_hops}
use Rattle.fib_resolve.specs.Sizes.{plies_of, kind_adjacency, same_adjacency}
use Rattle.fib_resolve.specs.Tables.{is_route, same_address, same_neighbor}
use Rattle.fib_resolve.specs.Edits.{edited, set_neighbor, set_path, set_paths, set_route, without_paths, route_left, routes_without, lacks_key, paths_at, paths_with, path_of, source_of, with_routes, with_addresses, with_neighbors, address_at, neighbor_at}
use Rattle.fib_resolve.specs.Keys.{key_of, key_lt, same_key}
use Rattle.fib_resolve.specs.Reachable.{IsWritten}
use Rattle.fib_resolve.specs.declared.pairs.Adjacency.{Adjacency}
use Rattle.fib_resolve.specs.declared.types.Address.{Address}
use Rattle.fib_resolve.specs.declared.types.Edit.{Edit}
use Rattle.fib_resolve.specs.declared.types.Edit.TheVariants as edits
use Rattle.fib_resolve.specs.declared.types.FibSource.{FibSource}
use Rattle.fib_resolve.specs.declared.types.Neighbor.{Neighbor}
use Rattle.fib_resolve.specs.declared.types.Path.{Path}
use Rattle.fib_resolve.specs.declared.types.PathSpec.{PathSpec}
use Rattle.fib_resolve.specs.declared.types.PathKind.{PathKind}
use Rattle.fib_resolve.specs.declared.types.PathKind.TheVariants as kinds
use Rattle.fib_resolve.specs.declared.types.Route.{Route}
use Rattle.fib_resolve.specs.declared.types.Tables.{Tables}
use Rattle.fib_resolve.proofs.Covering.{filter_from}
use Rattle.fib_resolve_pairs.proofs.Members.{filter_map_in, filter_map_from}
use Rattle.fib_resolve_changes.specs.Sources.{all_hops}
use Rattle.fib_resolve_changes.proofs.SamePairs.{flat_map_from, map_in, map_from}
use Rattle.fib_resolve_changes.proofs.Edits.{in_cases, in_front, in_rest}
use Rattle.fib_config.specs.inner.Bounds.{own_prefixes, prefix_of_route, host_of, candidates, depth_of, route_ends, neighbor_end, ends, same_number, possible, allowance, growth}
use Rattle.fib_config.proofs.Counts.{count_within, front_count}
use Rattle.fib_config.proofs.Within.{each-itself, same_adjacency-Decides, same_number-Decides, kind_length}

-- the prefixes that need no next hop
abbrev pub plain_ones : Tables → List Prefix
plain_ones S = map prefix_of fixed_pairs ++ flat_map own_prefixes S.addresses ++ map prefix_of_route S.routes ++ map host_of S.neighbors

-- the second tables have nothing new but these
pub record Grows (S T : Tables) (own : List Prefix) (hops : List ℕ) (found : List Adjacency) (more : ℕ) : Type 0 where
  pub prefixes : (p : Prefix) → Contains (plain_ones T) p → Contains own p ⊎ Contains (plain_ones S) p
  pub next : (a : ℕ) → Contains (all_hops T) a → Contains hops a ⊎ Contains (all_hops S) a
  pub near : (x : Adjacency) → Contains (ends T) x → Contains found x ⊎ Contains (ends S) x
  pub addresses : length T.addresses ≤ more + length S.addresses

-- counts

module _ {K : Type 0} (eq : K → K → Bool) (same : (a b : K) → Decides (eq a b) (a ≡ b)) where
  grown_count : (xs new ys : List K) → ((x : K) → Contains xs x → Contains new x ⊎ Contains ys x) → distinct_count eq xs ≤ length new + distinct_count eq ys
  grown_count xs new ys h =
      let both : (x : K) → Contains xs x → is_member eq (new ++ ys) x ≡ true = λ x c. (is_member-Decides same (new ++ ys) x).1 (elim (h x c) [
        | inl new_one ↦ Contains-append_left new ys x new_one
        | inr old ↦ Contains-append_right new ys x old
      ]) in
      omega (arith, count_within (decided eq same) xs (new ++ ys) (each-weaker (Contains xs) (λ x. is_member eq (new ++ ys) x ≡ true) both xs (each-itself xs)), front_count eq new ys)

plies_length : (p : Prefix) → length (plies_of p) ≡ depth_of p
plies_length p = length-map-range_with_len (λ k. masked p.bits (4 * k)) 0 (depth_of p)

host_plies : (hops : List ℕ) → length (flat_map plies_of (map host hops)) ≡ 8 * length hops
host_plies [] = refl
host_plies (a ∷ hops) =
    let eight : depth_of (host a) ≡ 8 = refl in
    omega (arith, length-append (plies_of (host a)) (flat_map plies_of (map host hops)), plies_length (host a), eight, host_plies hops)

length-map : {X Y : Type 0} (f : X → Y) (xs : List X) → length (map f xs) ≡ length xs
length-map f [] = refl
length-map f (x ∷ xs) = ap suc (length-map f xs)

flat_map-append : {X Y : Type 0} (f : X → List Y) (xs ys : List X) → length (flat_map f (xs ++ ys)) ≡ length (flat_map f xs) + length (flat_map f ys)
flat_map-append f [] ys = omega arith
flat_map-append f (x ∷ xs) ys = omega (arith, length-append (f x) (flat_map f (xs ++ ys)), length-append (f x) (flat_map f xs), flat_map-append f xs ys)

module _ (S T : Tables) (own : List Prefix) (hops : List ℕ) (found : List Adjacency) (more : ℕ) (g : Grows S T own hops found more) where
  candidate_in : (p : Prefix) → Contains (candidates T (all_hops T)) p → Contains (own ++ map host hops) p ⊎ Contains (candidates S (all_hops S)) p
  unfolding candidates
  candidate_in p c =
      elim (Contains-append_cases (plain_ones T) (map host (all_hops T)) p c) [
        | inl plain ↦ elim (g.prefixes p plain) [
          | inl new ↦ inl (Contains-append_left own (map host hops) p new)
          | inr old ↦ inr (Contains-append_left (plain_ones S) (map host (all_hops S)) p old)
        ]
        | inr host_one ↦ (let a = map_from host (all_hops T) p host_one in elim (g.next a.0 a.1) [
          | inl new ↦ inl (Contains-append_right own (map host hops) p (subst (Contains (map host hops)) a.2 (map_in host hops a.0 new)))
          | inr old ↦ inr (Contains-append_right (plain_ones S) (map host (all_hops S)) p (subst (Contains (map host (all_hops S))) a.2 (map_in host (all_hops S) a.0 old)))
        ])
      ]

  possible_in : (p : Prefix) → Contains (possible T) p → Contains (own ++ map host hops) p ⊎ Contains (possible S) p
  unfolding possible
  possible_in p c =
      elim (in_cases everything p (candidates T (all_hops T)) c) [
        | inl whole ↦ inr (in_front everything p (candidates S (all_hops S)) whole)
        | inr later ↦ elim (candidate_in p later) [
          | inl new ↦ inl new
          | inr old ↦ inr (in_rest everything p (candidates S (all_hops S)) old)
        ]
      ]

  ply_in : (p : Prefix) → Contains (flat_map plies_of (possible T)) p → Contains (flat_map plies_of (own ++ map host hops)) p ⊎ Contains (flat_map plies_of (possible S)) p
  ply_in p c =
      let q = flat_map_from plies_of (possible T) p c in
      elim (possible_in q.0 q.1) [
        | inl new ↦ inl (Contains-flat_map plies_of (own ++ map host hops) q.0 p new q.2)
        | inr old ↦ inr (Contains-flat_map plies_of (possible S) q.0 p old q.2)
      ]

  pub allowed_more : allowance T ≤ allowance S + (length own + length (flat_map plies_of own) + 10 * length hops + length found + more)
  unfolding allowance
  allowed_more =
      omega (
        arith,
        grown_count same_prefix same_prefix-Decides (possible T) (own ++ map host hops) (possible S) possible_in,
        grown_count same_prefix same_prefix-Decides (flat_map plies_of (possible T)) (flat_map plies_of (own ++ map host hops)) (flat_map plies_of (possible S)) ply_in,
        grown_count same_adjacency same_adjacency-Decides (ends T) found (ends S) g.near,
        grown_count same_number same_number-Decides (all_hops T) hops (all_hops S) g.next,
        g.addresses,
        length-append own (map host hops),
        length-map host hops,
        flat_map-append plies_of own (map host hops),
        host_plies hops,
      )

-- addresses

module _ (S : Tables) (others : List Address) (own : List Prefix) (more : ℕ) (fewer : length others ≤ more + length S.addresses)
    (h : (p : Prefix) → Contains (flat_map own_prefixes others) p → Contains own p ⊎ Contains (flat_map own_prefixes S.addresses) p) where
  address_prefixes : (p : Prefix) → Contains (plain_ones (with_addresses S others)) p → Contains own p ⊎ Contains (plain_ones S) p
  address_prefixes p c =
      let f = map prefix_of fixed_pairs in
      let o = flat_map own_prefixes S.addresses in
      let r = map prefix_of_route S.routes in
      let n = map host_of S.neighbors in
      elim (Contains-append_cases (f ++ flat_map own_prefixes others ++ r) n p c) [
        | inr at_n ↦ inr (Contains-append_right (f ++ o ++ r) n p at_n)
        | inl c1 ↦ elim (Contains-append_cases (f ++ flat_map own_prefixes others) r p c1) [
          | inr at_r ↦ inr (Contains-append_left (f ++ o ++ r) n p (Contains-append_right (f ++ o) r p at_r))
          | inl c2 ↦ elim (Contains-append_cases f (flat_map own_prefixes others) p c2) [
            | inl at_f ↦ inr (Contains-append_left (f ++ o ++ r) n p (Contains-append_left (f ++ o) r p (Contains-append_left f o p at_f)))
            | inr at_o ↦ elim (h p at_o) [
              | inl new ↦ inl new
              | inr old ↦ inr (Contains-append_left (f ++ o ++ r) n p (Contains-append_left (f ++ o) r p (Contains-append_right f o p old)))
            ]
          ]
        ]
      ]

  addresses_grow : Grows S (with_addresses S others) own [] [] more
  unfolding ends
  addresses_grow = record { prefixes = address_prefixes; next = λ a c. inr c; near = λ x c. inr c; addresses = fewer }

pushed_own : (all : List Address) (a : Address) (p : Prefix) → Contains (flat_map own_prefixes (all ++ a ∷ [])) p → Contains (own_prefixes a) p ⊎ Contains (flat_map own_prefixes all) p
pushed_own all a p c =
    let r = flat_map_from own_prefixes (all ++ a ∷ []) p c in
    elim (Contains-append_cases all (a ∷ []) r.0 r.1) [
      | inl old ↦ inr (Contains-flat_map own_prefixes all r.0 p old r.2)
      | inr new ↦ elim (in_cases a r.0 [] new) [
        | inl is ↦ inl (subst (λ z. Contains (own_prefixes z) p) (sym is) r.2)
        | inr none ↦ absurd (Contains-nil r.0 none)
      ]
    ]

own_length : (a : Address) → a.len ≤ 32 → length (own_prefixes a) + length (flat_map plies_of (own_prefixes a)) ≤ 36
own_length a short =
    let net = masked a.addr a.len in
    let low = net.bits in
    let high = net.bits + size_of a.len - 1 in
    let hosts = host_plies (a.addr ∷ low ∷ high ∷ []) in
    omega (arith, length-append (plies_of net) (flat_map plies_of (map host (a.addr ∷ low ∷ high ∷ []))), plies_length net, hosts, short)

-- neighbors

set_in : (n : Neighbor) (ms : List Neighbor) (x : Neighbor) → Contains (set_neighbor n ms) x → (n ≡ x) ⊎ Contains ms x
set_in n [] x c = in_cases n x [] c
set_in n (m ∷ ms) x c =
    elim (either (same_neighbor m n)) [
      | inl is ↦ (let d = rw is at c in elim (in_cases n x ms d) [ inl own ↦ inl own | inr later ↦ inr (in_rest m x ms later) ])
      | inr isnt ↦ (let d = rw isnt at c in elim (in_cases m x (set_neighbor n ms) d) [
        | inl front ↦ inr (in_front m x ms front)
        | inr later ↦ elim (set_in n ms x later) [ inl own ↦ inl own | inr old ↦ inr (in_rest m x ms old) ]
      ])
    ]

module _ (S : Tables) (others : List Neighbor) (new : List Neighbor) (h : (n : Neighbor) → Contains others n → Contains new n ⊎ Contains S.neighbors n) where
  neighbor_prefixes : (p : Prefix) → Contains (plain_ones (with_neighbors S others)) p → Contains (map host_of new) p ⊎ Contains (plain_ones S) p
  neighbor_prefixes p c =
      let front = map prefix_of fixed_pairs ++ flat_map own_prefixes S.addresses ++ map prefix_of_route S.routes in
      elim (Contains-append_cases front (map host_of others) p c) [
        | inl early ↦ inr (Contains-append_left front (map host_of S.neighbors) p early)
        | inr late ↦ (let n = map_from host_of others p late in elim (h n.0 n.1) [
          | inl fresh ↦ inl (subst (Contains (map host_of new)) n.2 (map_in host_of new n.0 fresh))
          | inr old ↦ inr (Contains-append_right front (map host_of S.neighbors) p (subst (Contains (map host_of S.neighbors)) n.2 (map_in host_of S.neighbors n.0 old)))
        ])
      ]

  neighbor_ends : (x : Adjacency) → Contains (ends (with_neighbors S others)) x → Contains (map neighbor_end new) x ⊎ Contains (ends S) x
  unfolding ends
  neighbor_ends x c =
      let front = flat_map route_ends S.routes in
      elim (Contains-append_cases front (map neighbor_end others) x c) [
        | inl early ↦ inr (Contains-append_left front (map neighbor_end S.neighbors) x early)
        | inr late ↦ (let n = map_from neighbor_end others x late in elim (h n.0 n.1) [
          | inl fresh ↦ inl (subst (Contains (map neighbor_end new)) n.2 (map_in neighbor_end new n.0 fresh))
          | inr old ↦ inr (Contains-append_right front (map neighbor_end S.neighbors) x (subst (Contains (map neighbor_end S.neighbors)) n.2 (map_in neighbor_end S.neighbors n.0 old)))
        ])
      ]

  neighbors_grow : Grows S (with_neighbors S others) (map host_of new) [] (map neighbor_end new) 0
  neighbors_grow = record { prefixes = neighbor_prefixes; next = λ a c. inr c; near = neighbor_ends; addresses = omega arith }

-- routes

-- a path of one of the routes of that prefix
abbrev pub HasPath : List Route → Prefix → Path → Type 0
HasPath rs prefix p = (r : Route) × Contains rs r × (r.prefix ≡ prefix) × Contains r.paths p

-- the route is an old one, or it is of that prefix, and each path is new or an old one of that prefix
pub record IsOldOrMade (rs : List Route) (prefix : Prefix) (new : List Path) (r : Route) : Type 0 where
  pub own : r.prefix ≡ prefix
  pub paths : (p : Path) → Contains r.paths p → Contains new p ⊎ HasPath rs prefix p

module _ (S : Tables) (others : List Route) (prefix : Prefix) (new : List Path)
    (h : (r : Route) → Contains others r → Contains S.routes r ⊎ IsOldOrMade S.routes prefix new r) where
  route_prefixes : (p : Prefix) → Contains (plain_ones (with_routes S others)) p → Contains (prefix ∷ []) p ⊎ Contains (plain_ones S) p
  route_prefixes p c =
      let front = map prefix_of fixed_pairs ++ flat_map own_prefixes S.addresses in
      let n = map host_of S.neighbors in
      elim (Contains-append_cases (front ++ map prefix_of_route others) n p c) [
        | inr at_n ↦ inr (Contains-append_right (front ++ map prefix_of_route S.routes) n p at_n)
        | inl c1 ↦ elim (Contains-append_cases front (map prefix_of_route others) p c1) [
          | inl early ↦ inr (Contains-append_left (front ++ map prefix_of_route S.routes) n p (Contains-append_left front (map prefix_of_route S.routes) p early))
          | inr late ↦ (let r = map_from prefix_of_route others p late in elim (h r.0 r.1) [
            | inl old ↦ inr (Contains-append_left (front ++ map prefix_of_route S.routes) n p (Contains-append_right front (map prefix_of_route S.routes) p (subst (Contains (map prefix_of_route S.routes)) r.2 (map_in prefix_of_route S.routes r.0 old))))
            | inr made ↦ inl (in_front prefix p [] (sym made.own ∙ r.2))
          ])
        ]
      ]

  route_hops : (a : ℕ) → Contains (all_hops (with_routes S others)) a → Contains (filter_map recursive_of new) a ⊎ Contains (all_hops S) a
  route_hops a c =
      let r = flat_map_from recursive_hops others a c in
      elim (h r.0 r.1) [
        | inl old ↦ inr (Contains-flat_map recursive_hops S.routes r.0 a old r.2)
        | inr made ↦ (let p = filter_map_from recursive_of r.0.paths a r.2 in elim (made.paths p.0 p.1) [
          | inl fresh ↦ inl (filter_map_in recursive_of new p.0 a fresh p.2)
          | inr old ↦ inr (Contains-flat_map recursive_hops S.routes old.0 a old.1 (filter_map_in recursive_of old.0.paths p.0 a old.3 p.2))
        ])
      ]

  abbrev new_ends : List Adjacency
  new_ends = flat_map (λ p. kind_adjacency prefix p.kind) new

  end_of : (x : Adjacency) (r : Route) → Contains others r → Contains (route_ends r) x → Contains new_ends x ⊎ Contains (flat_map route_ends S.routes) x
  end_of x r c e =
      elim (h r c) [
        | inl old ↦ inr (Contains-flat_map route_ends S.routes r x old e)
        | inr made ↦ (
            let p = flat_map_from (λ p. kind_adjacency r.prefix p.kind) r.paths x e in
            let at : Contains (kind_adjacency prefix p.0.kind) x = subst (λ q. Contains (kind_adjacency q p.0.kind) x) made.own p.2 in
            elim (made.paths p.0 p.1) [
              | inl fresh ↦ inl (Contains-flat_map (λ p. kind_adjacency prefix p.kind) new p.0 x fresh at)
              | inr old ↦ inr (Contains-flat_map route_ends S.routes old.0 x old.1
                  (Contains-flat_map (λ p. kind_adjacency old.0.prefix p.kind) old.0.paths p.0 x old.3 (subst (λ q. Contains (kind_adjacency q p.0.kind) x) (sym old.2) at)))
            ])
      ]

  route_near : (x : Adjacency) → Contains (ends (with_routes S others)) x → Contains new_ends x ⊎ Contains (ends S) x
  unfolding ends
  route_near x c =
      let back = map neighbor_end S.neighbors in
      elim (Contains-append_cases (flat_map route_ends others) back x c) [
        | inr late ↦ inr (Contains-append_right (flat_map route_ends S.routes) back x late)
        | inl early ↦ (let r = flat_map_from route_ends others x early in elim (end_of x r.0 r.1 r.2) [
          | inl fresh ↦ inl fresh
          | inr old ↦ inr (Contains-append_left (flat_map route_ends S.routes) back x old)
        ])
      ]

  routes_grow : Grows S (with_routes S others) (prefix ∷ []) (filter_map recursive_of new) new_ends 0
  routes_grow = record { prefixes = route_prefixes; next = route_hops; near = route_near; addresses = omega arith }

set_path_in : (p : Path) (qs : List Path) (x : Path) → Contains (set_path p qs) x → (p ≡ x) ⊎ Contains qs x
set_path_in p [] x c = in_cases p x [] c
set_path_in p (q ∷ qs) x c =
    elim (either (key_lt (key_of q) (key_of p))) [
      | inl below ↦ (let d = rw below at c in elim (in_cases q x (set_path p qs) d) [
        | inl front ↦ inr (in_front q x qs front)
        | inr later ↦ elim (set_path_in p qs x later) [ inl own ↦ inl own | inr old ↦ inr (in_rest q x qs old) ]
      ])
      | inr not_below ↦ (let d = rw not_below at c in elim (either (same_key (key_of q) (key_of p))) [
        | inl same ↦ (let e = rw same at d in elim (in_cases p x qs e) [ inl own ↦ inl own | inr later ↦ inr (in_rest q x qs later) ])
        | inr other ↦ (let e = rw other at d in elim (in_cases p x (q ∷ qs) e) [ inl own ↦ inl own | inr old ↦ inr old ])
      ])
    ]

set_paths_in : (old ps : List Path) (x : Path) → Contains (set_paths old ps) x → Contains ps x ⊎ Contains old x
set_paths_in old [] x c = inr c
set_paths_in old (p ∷ ps) x c =
    elim (set_paths_in (set_path p old) ps x c) [
      | inl later ↦ inl (in_rest p x ps later)
      | inr here ↦ elim (set_path_in p old x here) [ inl own ↦ inl (in_front p x ps own) | inr before ↦ inr before ]
    ]

later_path : (r : Route) (rs : List Route) (prefix : Prefix) (p : Path) → HasPath rs prefix p → HasPath (r ∷ rs) prefix p
later_path r rs prefix p h = (h.0, in_rest r h.0 rs h.1, h.2, h.3)

path_at : (prefix : Prefix) (source : FibSource) (rs : List Route) (p : Path) → Contains (paths_at prefix source rs) p → HasPath rs prefix p
path_at prefix source [] p c = absurd (Contains-nil p c)
path_at prefix source (r ∷ rs) p c =
    elim (either (is_route prefix source r)) [
      | inl is ↦ (let d = rw is at c in (r, in_front r r rs refl, (same_prefix-Decides r.prefix prefix).0 (and_both _ _ is).0, d))
      | inr isnt ↦ (let d = rw isnt at c in later_path r rs prefix p (path_at prefix source rs p d))
    ]

set_route_in : (new : Route) (rs : List Route) (x : Route) → Contains (set_route new rs) x → Contains rs x ⊎ (new ≡ x)
set_route_in new [] x c = elim (in_cases new x [] c) [ inl own ↦ inr own | inr none ↦ inl none ]
set_route_in new (r ∷ rs) x c =
    elim (either (is_route new.prefix new.source r)) [
      | inl is ↦ (let d = rw is at c in elim (in_cases new x rs d) [ inl own ↦ inr own | inr later ↦ inl (in_rest r x rs later) ])
      | inr isnt ↦ (let d = rw isnt at c in elim (in_cases r x (set_route new rs) d) [
        | inl front ↦ inl (in_front r x rs front)
        | inr later ↦ elim (set_route_in new rs x later) [ inl old ↦ inl (in_rest r x rs old) | inr own ↦ inr own ]
      ])
    ]

made_by : (rs : List Route) (prefix : Prefix) (new paths : List Path) (source : FibSource) → ((p : Path) → Contains paths p → Contains new p ⊎ HasPath rs prefix p) → (x : Route) → Contains (set_route (record { prefix = prefix; source = source; paths = paths }) rs) x → Contains rs x ⊎ IsOldOrMade rs prefix new x
made_by rs prefix new paths source h x c =
    let own : Route = record { prefix = prefix; source = source; paths = paths } in
    elim (set_route_in own rs x c) [
      | inl old ↦ inl old
      | inr is ↦ inr (subst (IsOldOrMade rs prefix new) is (record { own = refl; paths = h }))
    ]

left_in : (prefix : Prefix) (source : FibSource) (left : List Path) (rs : List Route) → ((p : Path) → Contains left p → HasPath rs prefix p) → (x : Route) → Contains (route_left prefix source left rs) x → Contains rs x ⊎ IsOldOrMade rs prefix [] x
left_in prefix source [] rs h x c = inl (filter_from (λ r. not (is_route prefix source r)) rs x c).0
left_in prefix source (p ∷ ps) rs h x c = made_by rs prefix [] (p ∷ ps) source (λ q d. inr (h q d)) x c

gone_in : (S : Tables) (prefix : Prefix) (source : FibSource) (specs : List PathSpec) (x : Route) → Contains (routes_without S prefix source specs) x → Contains S.routes x ⊎ IsOldOrMade S.routes prefix [] x
gone_in S prefix source [] x c = inl (filter_from (λ r. not (is_route prefix source r)) S.routes x c).0
gone_in S prefix source (spec ∷ specs) x c =
    let new = map (path_of S) (spec ∷ specs) in
    left_in prefix source (without_paths (paths_at prefix source S.routes) new) S.routes
    (λ p d. path_at prefix source S.routes p (filter_from (lacks_key new) (paths_at prefix source S.routes) p d).0) x c

-- how much the new paths of a route count
one_kind : (prefix : Prefix) (k : PathKind) (hs : List ℕ) (es : List Adjacency) (n : ℕ) → 10 * length hs + length es ≤ 10 * n → 10 * length (cons_option (recursive_kind k) hs) + length (kind_adjacency prefix k ++ es) ≤ 10 * (suc n)
one_kind prefix (kinds.Recursive a) hs es n h = omega (arith, h)
one_kind prefix (kinds.Hop a i) hs es n h = omega (arith, h)
one_kind prefix (kinds.Attached i) hs es n h =
    let one = length-append (kind_adjacency prefix (kinds.Attached i)) es in
    omega (arith, h, one, kind_length prefix (kinds.Attached i))
one_kind prefix kinds.Drop hs es n h = omega (arith, h)
one_kind prefix kinds.Local hs es n h = omega (arith, h)
one_kind prefix kinds.Cover hs es n h = omega (arith, h)

hops_and_ends : (prefix : Prefix) (ps : List Path) → 10 * length (filter_map recursive_of ps) + length (flat_map (λ p. kind_adjacency prefix p.kind) ps) ≤ 10 * length ps
hops_and_ends prefix [] = omega arith
hops_and_ends prefix (p ∷ ps) = one_kind prefix p.kind (filter_map recursive_of ps) (flat_map (λ q. kind_adjacency prefix q.kind) ps) (length ps) (hops_and_ends prefix ps)

own_one : (prefix : Prefix) → length (flat_map plies_of (prefix ∷ [])) ≡ depth_of prefix
own_one prefix = omega (arith, length-append (plies_of prefix) [], plies_length prefix)

added_allowed : (S : Tables) (prefix : Prefix) (api : Bool) (specs : List PathSpec) → allowance (edited S (edits.AddRoute prefix api specs)) ≤ allowance S + growth (edits.AddRoute prefix api specs)
unfolding edited growth
added_allowed S prefix api specs =
    let new = map (path_of S) specs in
    let others = set_route (record { prefix = prefix; source = source_of api; paths = paths_with S prefix api specs }) S.routes in
    let from = made_by S.routes prefix new (paths_with S prefix api specs) (source_of api)
    (λ p c. elim (set_paths_in (paths_at prefix (source_of api) S.routes) new p c) [ inl fresh ↦ inl fresh | inr old ↦ inr (path_at prefix (source_of api) S.routes p old) ]) in
    let most = allowed_more S (with_routes S others) (prefix ∷ []) (filter_map recursive_of new) (flat_map (λ p. kind_adjacency prefix p.kind) new) 0 (routes_grow S others prefix new from) in
    omega (arith, most, own_one prefix, hops_and_ends prefix new, length-map (path_of S) specs)

gone_allowed : (S : Tables) (prefix : Prefix) (api : Bool) (specs : List PathSpec) → allowance (edited S (edits.DelRoute prefix api specs)) ≤ allowance S + growth (edits.DelRoute prefix api specs)
unfolding edited growth
gone_allowed S prefix api specs =
    let others = routes_without S prefix (source_of api) specs in
    let most = allowed_more S (with_routes S others) (prefix ∷ []) [] [] 0 (routes_grow S others prefix [] (gone_in S prefix (source_of api) specs)) in
    omega (arith, most, own_one prefix)

pushed_allowed : (S : Tables) (name : List ℕ) (addr len : ℕ) → len ≤ 32 → allowance (edited S (edits.AddAddress name addr len)) ≤ allowance S + growth (edits.AddAddress name addr len)
unfolding edited growth
pushed_allowed S name addr len short =
    let a = address_at S name addr len in
    let others = S.addresses ++ a ∷ [] in
    let fewer : length others ≤ 1 + length S.addresses = omega (arith, length-append S.addresses (a ∷ [])) in
    let most = allowed_more S (with_addresses S others) (own_prefixes a) [] [] 1 (addresses_grow S others (own_prefixes a) 1 fewer (pushed_own S.addresses a)) in
    omega (arith, most, own_length a short)

filter_length : {X : Type 0} (test : X → Bool) (xs : List X) → length (filter test xs) ≤ length xs
filter_length test [] = omega arith
filter_length test (x ∷ xs) = elim (either (test x)) [ inl is ↦ rw is (omega (arith, filter_length test xs)) | inr isnt ↦ rw isnt (omega (arith, filter_length test xs)) ]

dropped_allowed : (S : Tables) (name : List ℕ) (addr len : ℕ) → allowance (edited S (edits.DelAddress name addr len)) ≤ allowance S + growth (edits.DelAddress name addr len)
unfolding edited growth
dropped_allowed S name addr len =
    let test : Address → Bool = λ a. not (same_address a (address_at S name addr len)) in
    let others = filter test S.addresses in
    let old : (p : Prefix) → Contains (flat_map own_prefixes others) p → Contains [] p ⊎ Contains (flat_map own_prefixes S.addresses) p = λ p c.
    (let r = flat_map_from own_prefixes others p c in inr (Contains-flat_map own_prefixes S.addresses r.0 p (filter_from test S.addresses r.0 r.1).0 r.2)) in
    omega (arith, allowed_more S (with_addresses S others) [] [] [] 0 (addresses_grow S others [] 0 (omega (arith, filter_length test S.addresses)) old))

neighbor_allowed : (S : Tables) (name : List ℕ) (addr mac : ℕ) → allowance (edited S (edits.SetNeighbor name addr mac)) ≤ allowance S + growth (edits.SetNeighbor name addr mac)
unfolding edited growth
neighbor_allowed S name addr mac =
    let n = neighbor_at S name addr mac in
    let others = set_neighbor n S.neighbors in
    let from : (m : Neighbor) → Contains others m → Contains (n ∷ []) m ⊎ Contains S.neighbors m = λ m c. elim (set_in n S.neighbors m c) [ inl is ↦ inl (in_front n m [] is) | inr old ↦ inr old ] in
    let most = allowed_more S (with_neighbors S others) (host_of n ∷ []) [] (neighbor_end n ∷ []) 0 (neighbors_grow S others (n ∷ []) from) in
    omega (arith, most, own_one (host_of n))

lost_allowed : (S : Tables) (name : List ℕ) (addr : ℕ) → allowance (edited S (edits.DelNeighbor name addr)) ≤ allowance S + growth (edits.DelNeighbor name addr)
unfolding edited growth
lost_allowed S name addr =
    let test : Neighbor → Bool = λ n. not (same_neighbor n (neighbor_at S name addr 0)) in
    let others = filter test S.neighbors in
    omega (arith, allowed_more S (with_neighbors S others) [] [] [] 0 (neighbors_grow S others [] (λ m c. inr (filter_from test S.neighbors m c).0)))

pub edit_allowed : (S : Tables) (e : Edit) → IsWritten e → allowance (edited S e) ≤ allowance S + growth e
unfolding edited growth allowance possible candidates ends
edit_allowed S (edits.CreateInterface name) written = omega arith
edit_allowed S (edits.SetState name up) written = omega arith
edit_allowed S (edits.AddAddress name addr len) written = pushed_allowed S name addr len written
edit_allowed S (edits.DelAddress name addr len) written = dropped_allowed S name addr len
edit_allowed S (edits.SetNeighbor name addr mac) written = neighbor_allowed S name addr mac
edit_allowed S (edits.DelNeighbor name addr) written = lost_allowed S name addr
edit_allowed S (edits.AddRoute prefix api specs) written = added_allowed S prefix api specs
edit_allowed S (edits.DelRoute prefix api specs) written = gone_allowed S prefix api specs
