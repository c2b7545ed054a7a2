-- The size of tables is within their allowance, and this within what the program counts.
use Rattle.std.proofs.Common.{arith, ◌≡◌, ℕ, suc, ◌+◌, ◌-◌, ◌*◌, ◌/◌, ◌≤◌, ◌<◌, ◌==◌, Bool, true, false, cond, List, [], ◌∷◌, ◌++◌, map, length, Option, Some, None, inl, inr, refl, sym, ◌∙◌, ap, subst, get_or, zero-add}
use Rattle.std.specs.Prelude.{Contains, All, flat_map, IfSome, nat_lt, nat_le, not, Decides}
use Rattle.std.specs.List.{AllByRecursion, range_with_len}
use Rattle.std.specs.Set.{is_member, unique_keys, distinct_count}
use Rattle.std.specs.List.Sorted.{IsPermutation}
use Rattle.std.proofs.lemmas.List.Sorted.{Contains-permutation}
use Rattle.std.specs.Cmp.{decided, first_so, second_so}
use Rattle.std.proofs.lemmas.Bool.{ltb-true}
use Rattle.std.proofs.lemmas.Bool.Decides.{Decides-and, Decides-eqb, Decides-like}
use Rattle.std.proofs.lemmas.Map.Made.{distinct_count-le, is_member-Decides}
use Rattle.std.proofs.lemmas.List.{length-append}
use Rattle.std.proofs.lemmas.List.FromFn.{length-map-range_with_len, get_or-map-range_with_len}
use Rattle.std.proofs.lemmas.List.Elements.{All-contains, All-from_recursion, All-contains_itself, Contains-append_left, Contains-append_right}
use Rattle.fib_base_list.proofs.Lists.{either, each-append, each-weaker, each-map, each-flat_map, Contains-flat_map}
use Rattle.fib_addr.specs.Prefixes.{Prefix, same_prefix, host, masked, size_of}
use Rattle.fib_addr.specs.Longest.{everything}
use Rattle.fib_addr.proofs.PrefixLaws.{same_prefix-Decides, same_prefix_equiv}
use Rattle.fib_resolve.specs.Pairs.{all_pairs, base_pairs, fixed_pairs, connected_pairs, edge_pair, edge_pairs, edge_addresses, is_address, route_pair, neighbor_pairs, derived_pair, derived_kind, recursive_hops, attached_by, is_interface, pairs, entries, best_pair, paths_of, prefix_of, same_pair, one, chosen}
use Rattle.fib_resolve.specs.Sizes.{plies_of, plies, same_adjacency, kind_adjacency, adjacencies_of, adjacencies, size}
use Rattle.fib_resolve.specs.declared.types.Address.{Address}
use Rattle.fib_resolve.specs.declared.types.Neighbor.{Neighbor}
use Rattle.fib_resolve.specs.declared.pairs.Pair.{Pair}
use Rattle.fib_resolve.specs.declared.pairs.Adjacency.{Adjacency}
use Rattle.fib_resolve.specs.declared.types.PathKind.{PathKind}
use Rattle.fib_resolve.specs.declared.types.PathKind.TheVariants as kinds
use Rattle.fib_resolve.specs.declared.types.FibSource.TheVariants as sources
use Rattle.fib_resolve.specs.declared.types.Tables.{Tables}
use Rattle.fib_resolve.proofs.Covering.{unique_in}
use Rattle.fib_resolve_changes.specs.Sources.{all_hops}
use Rattle.fib_resolve.proofs.PairLaws.{cond_has, each-all, each-unique, best_has}
use Rattle.fib_config.specs.inner.Bounds.{own_prefixes, prefix_of_route, host_of, candidates, depth_of, is_shared, left_behind, steps, route_ends, neighbor_end, ends, same_number, possible, allowance, IsBoundFor}
use Rattle.fib_config.proofs.Counts.{count_within, count_within_length, front_count, one_more, none_more, count_front, each-left, each-right, each-of_map, each-of_flat_map}

pub each-from_all : {X : Type 0} (P : X → Type 0) (xs : List X) → All P xs → AllByRecursion P xs
each-from_all P [] h = tt
each-from_all P (x ∷ xs) h = (h 0 x (omega arith), each-from_all P xs (λ k d l. h (suc k) d (omega (arith, l))))

each-at_member : {X : Type 0} (P : X → Type 0) (xs : List X) (x : X) → AllByRecursion P xs → Contains xs x → P x
each-at_member P xs x h c = All-contains P xs x (All-from_recursion P xs h) c

pub each-itself : {X : Type 0} (xs : List X) → AllByRecursion (Contains xs) xs
each-itself xs = each-from_all (Contains xs) xs (All-contains_itself xs)

prefix_member : (ps : List Prefix) (p : Prefix) → Contains ps p → is_member same_prefix ps p ≡ true
prefix_member ps p c = (is_member-Decides same_prefix-Decides ps p).1 c

-- plies

shown : (b : Bool) → not b ≡ false → b ≡ true
shown true h = refl
shown false h = cc

shared_in : (p q : Prefix) (rest : List Prefix) (k : ℕ) → not (is_shared p q k) ≡ false → is_member same_prefix (plies_of q ++ rest) (masked p.bits (4 * k)) ≡ true
shared_in p q rest k h =
    let both = shown (is_shared p q k) h in
    let test : Bool = (p.bits / size_of (4 * k)) == (q.bits / size_of (4 * k)) in
    let below = ltb-true k (depth_of q) (first_so (nat_lt k (depth_of q)) test both) in
    let same = (Decides-eqb (p.bits / size_of (4 * k)) (q.bits / size_of (4 * k))).0 (second_so (nat_lt k (depth_of q)) test both) in
    let f : ℕ → Prefix = λ j. masked q.bits (4 * j) in
    let is : masked p.bits (4 * k) ≡ f k = ap (λ n. let P : Prefix = record { bits = n * size_of (4 * k); len = 4 * k } in P) same in
    let c : Contains (plies_of q) (f k) = (k, subst (λ n. k < n) (sym (length-map-range_with_len f 0 (depth_of q))) below, get_or-map-range_with_len f 0 (depth_of q) k k (f k) below (zero-add k)) in
    prefix_member (plies_of q ++ rest) (masked p.bits (4 * k)) (subst (λ x. Contains (plies_of q ++ rest) x) (sym is) (Contains-append_left (plies_of q) rest (f k) c))

entry_step : (p q : Prefix) (qs : List Prefix) → distinct_count same_prefix (p ∷ q ∷ qs) ≤ cond (same_prefix p q) 0 1 + distinct_count same_prefix (q ∷ qs)
entry_step p q qs =
    elim (either (same_prefix p q)) [
      | inl is ↦ subst (λ b. distinct_count same_prefix (p ∷ q ∷ qs) ≤ cond b 0 1 + distinct_count same_prefix (q ∷ qs)) (sym is) (omega (arith, none_more same_prefix p (q ∷ qs) (rw is refl)))
      | inr isnt ↦ subst (λ b. distinct_count same_prefix (p ∷ q ∷ qs) ≤ cond b 0 1 + distinct_count same_prefix (q ∷ qs)) (sym isnt) (one_more same_prefix p (q ∷ qs))
    ]

-- each prefix's entry and plies are counted
pub steps_count : (p : Prefix) (qs : List Prefix) → distinct_count same_prefix (p ∷ qs) + distinct_count same_prefix (flat_map plies_of (p ∷ qs)) ≤ steps p qs
unfolding steps left_behind
steps_count p [] =
    omega (arith, distinct_count-le same_prefix (p ∷ []), distinct_count-le same_prefix (plies_of p ++ []), length-append (plies_of p) [], length-map-range_with_len (λ k. masked p.bits (4 * k)) 0 (depth_of p))
steps_count p (q ∷ qs) =
    let ks = range_with_len 0 (depth_of p) in
    let new : ℕ → Bool = λ k. not (is_shared p q k) in
    let rest = flat_map plies_of qs in
    let more = count_front same_prefix (λ k. masked p.bits (4 * k)) new ks (plies_of q ++ rest) (each-all (λ k. new k ≡ false → is_member same_prefix (plies_of q ++ rest) (masked p.bits (4 * k)) ≡ true) (shared_in p q rest) ks) in
    omega (arith, more, entry_step p q qs, steps_count q qs)

-- every entry is a candidate
module _ (S : Tables) (hops : List ℕ) (Q : List Prefix) (cs : AllByRecursion (Contains Q) (candidates S hops)) (hs : AllByRecursion (Contains hops) (flat_map recursive_hops S.routes)) where
  abbrev IsIn : Pair → Type 0
  IsIn x = Contains Q x.prefix

  connected_in : (a : Address) → AllByRecursion (Contains Q) (own_prefixes a) → AllByRecursion IsIn (connected_pairs a)
  connected_in a h =
      let own : Pair = one (masked a.addr a.len) sources.Interface (kinds.Attached a.interface) in
      each-append IsIn (cond (nat_lt a.len 32) (own ∷ []) []) (one (host a.addr) sources.Interface kinds.Local ∷ [])
      (cond_has (AllByRecursion IsIn) (nat_lt a.len 32) (own ∷ []) [] (h.0, tt) tt) (h.1.0, tt)

  edge_in : (x : ℕ) → Contains Q (host x) → AllByRecursion IsIn (edge_pair S.addresses x)
  edge_in x h = cond_has (AllByRecursion IsIn) (is_address S.addresses x) [] (one (host x) sources.Interface kinds.Drop ∷ []) tt (h, tt)

  edges_in : (a : Address) → AllByRecursion (Contains Q) (own_prefixes a) → AllByRecursion IsIn (edge_pairs S.addresses a)
  edges_in a h =
      let low = (masked a.addr a.len).bits in
      let high = (masked a.addr a.len).bits + size_of a.len - 1 in
      each-flat_map IsIn (edge_pair S.addresses) (edge_addresses a)
      (cond_has (AllByRecursion (λ x. AllByRecursion IsIn (edge_pair S.addresses x))) (nat_le a.len 30) (low ∷ high ∷ []) []
      (edge_in low h.1.1.0, (edge_in high h.1.1.1.0, tt)) tt)

  neighbor_in : (n : Neighbor) → Contains Q (host n.addr) → AllByRecursion IsIn (neighbor_pairs S n)
  unfolding neighbor_pairs
  neighbor_in n h =
      cond_has (AllByRecursion IsIn) (is_interface (attached_by S n.addr) n.interface) (one (host n.addr) sources.Adjacency (kinds.Hop n.addr n.interface) ∷ []) [] (h, tt) tt

  derived_in : (a : ℕ) → Contains Q (host a) → IsIn (derived_pair S a)
  unfolding derived_pair
  derived_in a h = h

  pairs_in : AllByRecursion IsIn (pairs S)
  unfolding pairs all_pairs base_pairs candidates
  pairs_in =
      let P : Prefix → Type 0 = Contains Q in
      let f = map prefix_of fixed_pairs in
      let o = flat_map own_prefixes S.addresses in
      let r = map prefix_of_route S.routes in
      let n = map host_of S.neighbors in
      let h = map host hops in
      let c4 = each-left P (f ++ o ++ r ++ n) h cs in
      let c3 = each-left P (f ++ o ++ r) n c4 in
      let c2 = each-left P (f ++ o) r c3 in
      let own = each-of_flat_map P own_prefixes S.addresses (each-right P f o c2) in
      let routes = each-of_map P prefix_of_route S.routes (each-right P (f ++ o) r c3) in
      let neighbors = each-of_map P host_of S.neighbors (each-right P (f ++ o ++ r) n c4) in
      let hosts = each-of_map P host hops (each-right P (f ++ o ++ r ++ n) h cs) in
      let connected_pairs_in = each-flat_map IsIn connected_pairs S.addresses (each-weaker (λ a. AllByRecursion P (own_prefixes a)) (λ a. AllByRecursion IsIn (connected_pairs a)) connected_in S.addresses own) in
      let edge_pairs_in = each-flat_map IsIn (edge_pairs S.addresses) S.addresses (each-weaker (λ a. AllByRecursion P (own_prefixes a)) (λ a. AllByRecursion IsIn (edge_pairs S.addresses a)) edges_in S.addresses own) in
      let neighbor_pairs_in = each-flat_map IsIn (neighbor_pairs S) S.neighbors (each-weaker (λ x. P (host_of x)) (λ x. AllByRecursion IsIn (neighbor_pairs S x)) neighbor_in S.neighbors neighbors) in
      let derived_pairs_in = each-map IsIn (derived_pair S) (flat_map recursive_hops S.routes) (each-weaker (Contains hops) (λ a. IsIn (derived_pair S a)) (λ a c. derived_in a (each-at_member (λ x. P (host x)) hops a hosts c)) (flat_map recursive_hops S.routes) hs) in
      let connected = flat_map connected_pairs S.addresses in
      let edges = flat_map (edge_pairs S.addresses) S.addresses in
      each-unique IsIn same_pair (base_pairs S ++ flat_map (neighbor_pairs S) S.neighbors ++ map (derived_pair S) (flat_map recursive_hops S.routes))
      (each-append IsIn (base_pairs S ++ flat_map (neighbor_pairs S) S.neighbors) (map (derived_pair S) (flat_map recursive_hops S.routes))
      (each-append IsIn (base_pairs S) (flat_map (neighbor_pairs S) S.neighbors)
      (each-append IsIn (fixed_pairs ++ connected ++ edges) (map route_pair S.routes)
      (each-append IsIn (fixed_pairs ++ connected) edges
      (each-append IsIn fixed_pairs connected (each-of_map P prefix_of fixed_pairs (each-left P f o c2)) connected_pairs_in) edge_pairs_in)
      (each-map IsIn route_pair S.routes routes)) neighbor_pairs_in) derived_pairs_in)

  prefixes_in : AllByRecursion (Contains Q) (map prefix_of (pairs S))
  prefixes_in = each-map (Contains Q) prefix_of (pairs S) pairs_in

  pub entries_count : length (entries S) ≤ distinct_count same_prefix Q
  unfolding entries
  entries_count =
      count_within same_prefix_equiv (map prefix_of (pairs S)) Q (each-weaker (Contains Q) (λ p. is_member same_prefix Q p ≡ true) (prefix_member Q) (map prefix_of (pairs S)) prefixes_in)

  entries_in : AllByRecursion (Contains Q) (entries S)
  unfolding entries
  entries_in = each-unique (Contains Q) same_prefix (map prefix_of (pairs S)) prefixes_in

  plies_in : (e : Prefix) → Contains Q e → AllByRecursion (λ p. is_member same_prefix (everything ∷ flat_map plies_of Q) p ≡ true) (plies_of e)
  plies_in e c =
      let all = flat_map plies_of Q in
      each-weaker (Contains (plies_of e)) (λ p. is_member same_prefix (everything ∷ all) p ≡ true)
      (λ p k. prefix_member (everything ∷ all) p (Contains-append_right (everything ∷ []) all p (Contains-flat_map plies_of Q e p c k)))
      (plies_of e) (each-itself (plies_of e))

  pub plies_count : length (plies S) ≤ 1 + distinct_count same_prefix (flat_map plies_of Q)
  unfolding plies
  plies_count =
      let all = flat_map plies_of Q in
      let M : Prefix → Type 0 = λ p. is_member same_prefix (everything ∷ all) p ≡ true in
      let within = count_within same_prefix_equiv (everything ∷ flat_map plies_of (entries S)) (everything ∷ all) (
        prefix_member (everything ∷ all) everything (Contains-append_left (everything ∷ []) all everything (0, omega arith, refl)),
        each-flat_map M plies_of (entries S) (each-weaker (Contains Q) (λ e. AllByRecursion M (plies_of e)) plies_in (entries S) entries_in),
      ) in
      omega (arith, within, one_more same_prefix everything all)

-- adjacencies

adjacency_with : ℕ → ℕ → Adjacency
adjacency_with i a = record { interface = i; next_hop = a }

same_ends : (x y : Adjacency) → (x.interface ≡ y.interface) × (x.next_hop ≡ y.next_hop) → x ≡ y
unfolding adjacency_with
same_ends x y h = ap (λ n. adjacency_with n x.next_hop) h.0 ∙ ap (λ n. adjacency_with y.interface n) h.1

pub same_adjacency-Decides : (x y : Adjacency) → Decides (same_adjacency x y) (x ≡ y)
same_adjacency-Decides x y =
    Decides-like (same_adjacency x y) (same_ends x y) (λ e. (ap (λ (z : Adjacency). z.interface) e, ap (λ (z : Adjacency). z.next_hop) e))
    (Decides-and (x.interface == y.interface) (x.next_hop == y.next_hop) (Decides-eqb x.interface y.interface) (Decides-eqb x.next_hop y.next_hop))

abbrev pair_adjacencies : Pair → List Adjacency
pair_adjacencies x = flat_map (λ p. kind_adjacency x.prefix p.kind) x.paths

abbrev connected_adjacencies : Address → List Adjacency
connected_adjacencies a = flat_map pair_adjacencies (connected_pairs a)

abbrev neighbor_adjacencies : Tables → Neighbor → List Adjacency
neighbor_adjacencies S n = flat_map pair_adjacencies (neighbor_pairs S n)

abbrev derived_adjacencies : Tables → ℕ → List Adjacency
derived_adjacencies S a = pair_adjacencies (derived_pair S a)

module _ (S : Tables) (hops : List ℕ) (C : List Adjacency) (hs : AllByRecursion (Contains hops) (flat_map recursive_hops S.routes)) where
  abbrev AreIn : Pair → Type 0
  AreIn x = AllByRecursion (Contains C) (pair_adjacencies x)

  edge_free : (x : ℕ) → AllByRecursion AreIn (edge_pair S.addresses x)
  edge_free x = cond_has (AllByRecursion AreIn) (is_address S.addresses x) [] (one (host x) sources.Interface kinds.Drop ∷ []) tt (tt, tt)

  edges_free : (a : Address) → AllByRecursion AreIn (edge_pairs S.addresses a)
  edges_free a = each-flat_map AreIn (edge_pair S.addresses) (edge_addresses a) (each-all (λ x. AllByRecursion AreIn (edge_pair S.addresses x)) edge_free (edge_addresses a))

  ends_in :
      AllByRecursion (Contains C) (flat_map connected_adjacencies S.addresses) →
      AllByRecursion (Contains C) (flat_map route_ends S.routes) →
      AllByRecursion (Contains C) (flat_map (neighbor_adjacencies S) S.neighbors) →
      AllByRecursion (Contains C) (flat_map (derived_adjacencies S) hops) → AllByRecursion AreIn (pairs S)
  unfolding pairs all_pairs base_pairs
  ends_in of_connected of_routes of_neighbors of_derived =
      let connected = flat_map connected_pairs S.addresses in
      let edges = flat_map (edge_pairs S.addresses) S.addresses in
      let neighbors = flat_map (neighbor_pairs S) S.neighbors in
      let derived = map (derived_pair S) (flat_map recursive_hops S.routes) in
      let connected_are = each-flat_map AreIn connected_pairs S.addresses (each-weaker (λ a. AllByRecursion (Contains C) (connected_adjacencies a)) (λ a. AllByRecursion AreIn (connected_pairs a)) (λ a h. each-of_flat_map (Contains C) pair_adjacencies (connected_pairs a) h) S.addresses (each-of_flat_map (Contains C) connected_adjacencies S.addresses of_connected)) in
      let edges_are = each-flat_map AreIn (edge_pairs S.addresses) S.addresses (each-all (λ a. AllByRecursion AreIn (edge_pairs S.addresses a)) edges_free S.addresses) in
      let routes_are = each-map AreIn route_pair S.routes (each-of_flat_map (Contains C) route_ends S.routes of_routes) in
      let neighbors_are = each-flat_map AreIn (neighbor_pairs S) S.neighbors (each-weaker (λ n. AllByRecursion (Contains C) (neighbor_adjacencies S n)) (λ n. AllByRecursion AreIn (neighbor_pairs S n)) (λ n h. each-of_flat_map (Contains C) pair_adjacencies (neighbor_pairs S n) h) S.neighbors (each-of_flat_map (Contains C) (neighbor_adjacencies S) S.neighbors of_neighbors)) in
      let hops_are = each-of_flat_map (Contains C) (derived_adjacencies S) hops of_derived in
      let derived_are = each-map AreIn (derived_pair S) (flat_map recursive_hops S.routes) (each-weaker (Contains hops) (λ a. AreIn (derived_pair S a)) (λ a c. each-at_member (λ x. AreIn (derived_pair S x)) hops a hops_are c) (flat_map recursive_hops S.routes) hs) in
      each-unique AreIn same_pair (base_pairs S ++ neighbors ++ derived)
      (each-append AreIn (base_pairs S ++ neighbors) derived
      (each-append AreIn (base_pairs S) neighbors
      (each-append AreIn (fixed_pairs ++ connected ++ edges) (map route_pair S.routes)
      (each-append AreIn (fixed_pairs ++ connected) edges
      (each-append AreIn fixed_pairs connected (tt, (tt, (tt, (tt, (tt, tt))))) connected_are) edges_are) routes_are) neighbors_are) derived_are)

  best_in : (e : Prefix) (o : Option Pair) → IfSome o (λ x. AreIn x × (e ≡ x.prefix)) → AllByRecursion (Contains C) (flat_map (λ p. kind_adjacency e p.kind) (paths_of o))
  best_in e None h = tt
  best_in e (Some x) h = subst (λ (q : Prefix). AllByRecursion (Contains C) (flat_map (λ p. kind_adjacency q p.kind) x.paths)) (sym h.1) h.0

  chosen_in : AllByRecursion AreIn (pairs S) → (e : Prefix) → AllByRecursion (Contains C) (adjacencies_of S e)
  unfolding chosen
  chosen_in h e = best_in e (best_pair e (pairs S)) (best_has AreIn e (pairs S) h)

  adjacencies_within : AllByRecursion AreIn (pairs S) → length (adjacencies S) ≤ distinct_count same_adjacency C
  unfolding adjacencies
  adjacencies_within h =
      let all = flat_map (adjacencies_of S) (entries S) in
      count_within (decided same_adjacency same_adjacency-Decides) all C
      (each-weaker (Contains C) (λ x. is_member same_adjacency C x ≡ true) (λ x c. (is_member-Decides same_adjacency-Decides C x).1 c) all
      (each-flat_map (Contains C) (adjacencies_of S) (entries S) (each-all (λ e. AllByRecursion (Contains C) (adjacencies_of S e)) (chosen_in h) (entries S))))

length-each : {X Y : Type 0} (f : X → List Y) → ((x : X) → length (f x) ≤ 1) → (xs : List X) → length (flat_map f xs) ≤ length xs
length-each f h [] = omega arith
length-each f h (x ∷ xs) = omega (arith, h x, length-each f h xs, length-append (f x) (flat_map f xs))

pub kind_length : (e : Prefix) (k : PathKind) → length (kind_adjacency e k) ≤ 1
kind_length e (kinds.Hop a i) = omega arith
kind_length e (kinds.Attached i) = cond_has (λ (xs : List Adjacency). length xs ≤ 1) (e.len == 32) (record { interface = i; next_hop = e.bits } ∷ []) [] (omega arith) (omega arith)
kind_length e kinds.Drop = omega arith
kind_length e kinds.Local = omega arith
kind_length e (kinds.Recursive a) = omega arith
kind_length e kinds.Cover = omega arith

one_length : (e : Prefix) (k : PathKind) → length (kind_adjacency e k ++ []) ≤ 1
one_length e k = omega (arith, kind_length e k, length-append (kind_adjacency e k) [])

connected_length : (a : Address) → length (connected_adjacencies a) ≤ 1
connected_length a =
    let own : Pair = one (masked a.addr a.len) sources.Interface (kinds.Attached a.interface) in
    let itself : Pair = one (host a.addr) sources.Interface kinds.Local in
    cond_has (λ (xs : List Pair). length (flat_map pair_adjacencies (xs ++ itself ∷ [])) ≤ 1) (nat_lt a.len 32) (own ∷ []) []
    (let e = one_length (masked a.addr a.len) (kinds.Attached a.interface) in omega (arith, e, length-append (kind_adjacency (masked a.addr a.len) (kinds.Attached a.interface) ++ []) [])) (omega arith)

neighbor_in_ends : (S : Tables) (C : List Adjacency) (n : Neighbor) → Contains C (neighbor_end n) → AllByRecursion (Contains C) (neighbor_adjacencies S n)
unfolding neighbor_pairs
neighbor_in_ends S C n h =
    cond_has (λ (xs : List Pair). AllByRecursion (Contains C) (flat_map pair_adjacencies xs)) (is_interface (attached_by S n.addr) n.interface) (one (host n.addr) sources.Adjacency (kinds.Hop n.addr n.interface) ∷ []) [] (h, tt) tt

derived_length : (S : Tables) (a : ℕ) → length (derived_adjacencies S a) ≤ 1
unfolding derived_pair
derived_length S a = one_length (host a) (derived_kind a (attached_by S a))

pub adjacencies_count : (S : Tables) (hops : List ℕ) → AllByRecursion (Contains hops) (all_hops S) → length (adjacencies S) ≤ distinct_count same_adjacency (ends S) + length S.addresses + length hops
unfolding ends
adjacencies_count S hops hs =
    let a = flat_map connected_adjacencies S.addresses in
    let r = flat_map route_ends S.routes in
    let n = map neighbor_end S.neighbors in
    let d = flat_map (derived_adjacencies S) hops in
    let C = (a ++ d) ++ (r ++ n) in
    let P : Adjacency → Type 0 = Contains C in
    let all = each-itself C in
    let front = each-left P (a ++ d) (r ++ n) all in
    let back = each-right P (a ++ d) (r ++ n) all in
    let near = each-of_map P neighbor_end S.neighbors (each-right P r n back) in
    let neighbors = each-flat_map P (neighbor_adjacencies S) S.neighbors (each-weaker (λ x. P (neighbor_end x)) (λ x. AllByRecursion P (neighbor_adjacencies S x)) (neighbor_in_ends S C) S.neighbors near) in
    let within = adjacencies_within S hops C hs (ends_in S hops C hs (each-left P a d front) (each-left P r n back) neighbors (each-right P a d front)) in
    omega (
      arith,
      within,
      front_count same_adjacency (a ++ d) (r ++ n),
      length-append a d,
      length-each connected_adjacencies connected_length S.addresses,
      length-each (derived_adjacencies S) (derived_length S) hops,
    )

pub same_number-Decides : (a b : ℕ) → Decides (same_number a b) (a ≡ b)
same_number-Decides a b = Decides-eqb a b

-- what is left without repeats has every item
unique_each : {X : Type 0} (eq : X → X → Bool) → ((a b : X) → Decides (eq a b) (a ≡ b)) → (xs : List X) → AllByRecursion (Contains (unique_keys eq xs)) xs
unique_each eq same xs =
    each-weaker (Contains xs) (Contains (unique_keys eq xs))
    (λ x c. (unique_in eq (decided eq same) (λ a b e. (same a b).0 e) xs x).0 c) xs (each-itself xs)

hops_each : (hops : List ℕ) → AllByRecursion (Contains (unique_keys same_number hops)) hops
hops_each hops = unique_each same_number same_number-Decides hops

-- the size is within what is allowed for
pub size_allowed : (S : Tables) → size S ≤ allowance S
unfolding size allowance possible
size_allowed S =
    let hops = all_hops S in
    let Q = everything ∷ candidates S hops in
    let in_all = each-weaker (Contains (candidates S hops)) (Contains Q) (λ p c. Contains-append_right (everything ∷ []) (candidates S hops) p c) (candidates S hops) (each-itself (candidates S hops)) in
    omega (arith, entries_count S hops Q in_all (each-itself hops), plies_count S hops Q in_all (each-itself hops), adjacencies_count S (unique_keys same_number hops) (hops_each hops))

-- what is in another order
pub all_permuted : {X : Type 0} (xs ys : List X) → IsPermutation xs ys → All (Contains ys) xs
all_permuted xs ys p k d l = Contains-permutation xs ys (get_or xs k d) p (All-contains_itself xs k d l)

-- what the program counts: the steps along sorted prefixes, the Hop ends, the addresses and the next hops
pub allowance_counted : (S : Tables) (hops : List ℕ) (qs : List Prefix) (found : List Adjacency) → All (Contains hops) (all_hops S) → All (Contains qs) (candidates S hops) → All (Contains found) (ends S) → allowance S ≤ 1 + steps everything qs + (length found + length S.addresses + length hops)
unfolding allowance possible candidates
allowance_counted S hops qs found hs cs es =
    let all = all_hops S in
    let Q = everything ∷ qs in
    let own = map prefix_of fixed_pairs ++ flat_map own_prefixes S.addresses ++ map prefix_of_route S.routes ++ map host_of S.neighbors in
    let inside = each-from_all (Contains qs) (own ++ map host hops) cs in
    let hosts = each-of_map (Contains qs) host hops (each-right (Contains qs) own (map host hops) inside) in
    let all_in = each-append (Contains qs) own (map host all) (each-left (Contains qs) own (map host hops) inside)
    (each-map (Contains qs) host all (each-weaker (Contains hops) (λ a. Contains qs (host a)) (λ a c. each-at_member (λ x. Contains qs (host x)) hops a hosts c) all (each-from_all (Contains hops) all hs))) in
    let within : AllByRecursion (Contains Q) (everything ∷ (own ++ map host all)) = (
      Contains-append_left (everything ∷ []) qs everything (0, omega arith, refl),
      each-weaker (Contains qs) (Contains Q) (λ p c. Contains-append_right (everything ∷ []) qs p c) (own ++ map host all) all_in,
    ) in
    let entries = count_within same_prefix_equiv (everything ∷ (own ++ map host all)) Q (each-weaker (Contains Q) (λ p. is_member same_prefix Q p ≡ true) (prefix_member Q) (everything ∷ (own ++ map host all)) within) in
    let plies = count_within same_prefix_equiv (flat_map plies_of (everything ∷ (own ++ map host all))) (flat_map plies_of Q)
    (each-flat_map (λ p. is_member same_prefix (flat_map plies_of Q) p ≡ true) plies_of (everything ∷ (own ++ map host all))
    (each-weaker (Contains Q) (λ e. AllByRecursion (λ p. is_member same_prefix (flat_map plies_of Q) p ≡ true) (plies_of e)) (plies_among Q) (everything ∷ (own ++ map host all)) within)) in
    let near = count_within_length (decided same_adjacency same_adjacency-Decides) (ends S) found
    (each-weaker (Contains found) (λ x. is_member same_adjacency found x ≡ true) (λ x c. (is_member-Decides same_adjacency-Decides found x).1 c) (ends S) (each-from_all (Contains found) (ends S) es)) in
    let next = count_within_length (decided same_number same_number-Decides) all hops
    (each-weaker (Contains hops) (λ x. is_member same_number hops x ≡ true) (λ x c. (is_member-Decides same_number-Decides hops x).1 c) all (each-from_all (Contains hops) all hs)) in
    omega (arith, entries, plies, steps_count everything qs, near, next)
  where
    plies_among : (Q : List Prefix) (e : Prefix) → Contains Q e → AllByRecursion (λ p. is_member same_prefix (flat_map plies_of Q) p ≡ true) (plies_of e)
    plies_among Q e c =
        each-weaker (Contains (plies_of e)) (λ p. is_member same_prefix (flat_map plies_of Q) p ≡ true)
        (λ p k. prefix_member (flat_map plies_of Q) p (Contains-flat_map plies_of Q e p c k)) (plies_of e) (each-itself (plies_of e))

-- the sum that the program makes
pub allowance_reached : (S : Tables) (hops : List ℕ) (sorted : List Prefix) (found : List Adjacency) (count objects others r : ℕ) → hops ≡ unique_keys same_number (all_hops S) → IsPermutation (candidates S hops) sorted → found ≡ unique_keys same_adjacency (ends S) → IsBoundFor count (steps everything sorted) → IsBoundFor objects (1 + count) → IsBoundFor others (length found + length S.addresses + length hops) → IsBoundFor r (objects + others) → IsBoundFor r (allowance S)
allowance_reached S hops sorted found count objects others r next p near counted plus ended total =
    let hs : AllByRecursion (Contains hops) (all_hops S) = subst (λ l. AllByRecursion (Contains l) (all_hops S)) (sym next) (hops_each (all_hops S)) in
    let es : AllByRecursion (Contains found) (ends S) = subst (λ l. AllByRecursion (Contains l) (ends S)) (sym near) (unique_each same_adjacency same_adjacency-Decides (ends S)) in
    omega (arith, allowance_counted S hops sorted found (All-from_recursion (Contains hops) (all_hops S) hs) (all_permuted (candidates S hops) sorted p) (All-from_recursion (Contains found) (ends S) es), counted, plus, ended, total)
