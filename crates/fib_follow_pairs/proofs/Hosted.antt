-- The pairs of a prefix, those of a neighbor and of a next hop among them.
use Rattle.std.proofs.Common.{arith, ◌≡◌, ℕ, ◌<◌, ◌≤◌, ◌==◌, Bool, true, false, List, [], ◌∷◌, ◌++◌, length, Option, Some, None, inl, inr}
use Rattle.std.proofs.Common.{refl, sym, ◌∙◌, ap, subst, ◌↔◌}
use Rattle.std.specs.Prelude.{Contains, find, option_map, filter_map, IsTrue}
use Rattle.std.specs.List.{AllByRecursion, list_any}
use Rattle.std.proofs.lemmas.Bool.{false≢true}
use Rattle.std.proofs.lemmas.Bool.Decides.{Decides-eqb}
use Rattle.fib_base_list.proofs.Lists.{either, each-weaker, Contains-flat_map, Contains-nil}
use Rattle.fib_base_list.proofs.Booleans.{and_both, or_cases, or_left, or_right}
use Rattle.fib_base_interned.proofs.Finding.{contains_at, find_place}
use Rattle.fib_addr.specs.Prefixes.{Prefix, host}
use Rattle.fib_addr.proofs.PrefixLaws.{same_fields}
use Rattle.fib_resolve.specs.Edits.{paths_at}
use Rattle.fib_resolve.specs.Keys.{source_rank}
use Rattle.fib_resolve.specs.Pairs.{base_pairs, pairs, one, attached_by, attached_of, best_pair, chosen, cover, derived_kind, derived_pair}
use Rattle.fib_resolve.specs.Pairs.{is_interface, neighbor_pairs, paths_of, recursive_hops, recursive_of, route_pair}
use Rattle.fib_resolve.specs.Resolution.{is_neighbor, mac_of}
use Rattle.fib_resolve.specs.Tables.{IsSound, IsSoundRoute}
use Rattle.fib_resolve.specs.declared.pairs.Pair.{Pair}
use Rattle.fib_resolve.specs.declared.types.FibSource.{FibSource}
use Rattle.fib_resolve.specs.declared.types.FibSource.TheVariants as sources
use Rattle.fib_resolve.specs.declared.types.Neighbor.{Neighbor}
use Rattle.fib_resolve.specs.declared.types.Path.{Path}
use Rattle.fib_resolve.specs.declared.types.PathKind.TheVariants as kinds
use Rattle.fib_resolve.specs.declared.types.Route.{Route}
use Rattle.fib_resolve.specs.declared.types.Tables.{Tables}
use Rattle.fib_resolve.proofs.OneList.{each-itself, source_by_rank}
use Rattle.fib_resolve.proofs.Touching.{best_of, best_paths_same, BestOf}
use Rattle.fib_resolve_changes.specs.Looked.{attached_at}
use Rattle.fib_resolve_changes.specs.Sources.{HasNeighbor, all_hops}
use Rattle.fib_resolve_changes.proofs.CauseLaws.{any_from}
use Rattle.fib_resolve_changes.proofs.Edits.{in_cases, in_front, in_rest, any_in, clash}
use Rattle.fib_resolve_changes.proofs.SamePairs.{Origin, origin, from_origin, base, neighbor, derived, near_from, near_is, flat_map_from}
use Rattle.fib_follow_view.specs.Views.{AreBetterFirst}
use Rattle.fib_follow_pairs.specs.Fresh.{ArePairsAt, HoldsWays}
use Rattle.fib_follow_pairs.specs.inner.Parts.{IsPart, AreFirst, near_with, near_at, hop_at, leads_to, is_way, paths_in}
use Rattle.fib_follow_pairs.proofs.BaseParts.{base_origin, base_rank, one_pair, one_base_pair, sound_route, from_base_origin, route, no_route, found_route}
use Rattle.fib_follow_pairs.proofs.Joining.{there, nowhere, joined, skipped, finished}

-- a neighbor is there where it has a MAC
pub near_there : (S : Tables) (i a mac : ℕ) → mac_of S i a ≡ Some mac → HasNeighbor S i a
near_there S i a mac e = by (find (is_neighbor i a) S.neighbors) refl e
  where
    by : (o : Option Neighbor) → find (is_neighbor i a) S.neighbors ≡ o → option_map (λ n. n.mac) o ≡ Some mac → HasNeighbor S i a
    by None f k = absurd (cc)
    by (Some n) f k =
        let p = find_place (is_neighbor i a) S.neighbors n f in
        let both = and_both (n.interface == i) (n.addr == a) p.2 in
        (n, contains_at S.neighbors p.0 n p.1, (Decides-eqb n.interface i).0 both.0, (Decides-eqb n.addr a).0 both.1)

pub near_nowhere : (S : Tables) (i a : ℕ) → mac_of S i a ≡ None → HasNeighbor S i a → ⊥
near_nowhere S i a e (n, c, on, at) = by S.neighbors (found (find (is_neighbor i a) S.neighbors) refl e) c
  where
    found : (o : Option Neighbor) → find (is_neighbor i a) S.neighbors ≡ o → option_map (λ m. m.mac) o ≡ None → find (is_neighbor i a) S.neighbors ≡ None
    found None f k = f
    found (Some m) f k = absurd (cc)

    by : (ns : List Neighbor) → find (is_neighbor i a) ns ≡ None → Contains ns n → ⊥
    by [] f k = Contains-nil n k
    by (m ∷ ms) f k = elim (either (is_neighbor i a m)) [
      | inl is ↦ absurd (let bad : Some m ≡ None = rw is at f in cc)
      | inr isnt ↦ elim (in_cases m n ms k) [
        | inl same ↦ clash (is_neighbor i a m)
            (rw (
              (Decides-eqb m.interface i).1 (ap (λ z. z.interface) same ∙ on),
              (Decides-eqb m.addr a).1
                  (ap (λ z. z.addr) same ∙ at),
            ) refl) isnt
        | inr later ↦ by ms (rw isnt at f) later
      ]
    ]

near_in : (S : Tables) (n : Neighbor) → is_interface (attached_by S n.addr) n.interface ≡ true
    → Contains (neighbor_pairs S n) (one (host n.addr) sources.Adjacency (kinds.Hop n.addr n.interface))
unfolding neighbor_pairs
near_in S n h = rw h (in_front (one (host n.addr) sources.Adjacency (kinds.Hop n.addr n.interface))
    (one (host n.addr) sources.Adjacency (kinds.Hop n.addr n.interface)) [] refl)

derived_is : (S : Tables) (a : ℕ) → derived_pair S a ≡ one (host a) sources.RecursiveResolution (derived_kind a (attached_by S a))
unfolding derived_pair
derived_is S a = refl

-- where a pair of late sources comes from
near_rank : (S : Tables) (n : Neighbor) (x : Pair) → Contains (neighbor_pairs S n) x → (source_rank x.source ≡ 4) × (x.prefix ≡ host n.addr)
near_rank S n x c = (let r = near_from S n x c in let is = sym (near_is n.addr n.interface) ∙ r.1
    in (sym (ap (λ z. source_rank z.source) is), sym (ap (λ z. z.prefix) is)))

derived_rank : (S : Tables) (a : ℕ) (x : Pair) → derived_pair S a ≡ x → (source_rank x.source ≡ 5) × (x.prefix ≡ host a)
derived_rank S a x is = (let e = sym (derived_is S a) ∙ is in (sym (ap (λ z. source_rank z.source) e), sym (ap (λ z. z.prefix) e)))

module _ (S : Tables) (sound : IsSound S) where
  module _ (a : ℕ) where
    one_near : (x : Pair) → Origin S x → host a ≡ x.prefix → sources.Adjacency ≡ x.source → (i : ℕ) × HasNeighbor S i a × (attached_by S a ≡ Some i)
    one_near x (base own) on at = elim (base_rank S sound x (base_origin S x own)) [
      | inl early ↦ absurd (let k = ap source_rank at in omega (arith, k, early))
      | inr last ↦ absurd (let k = ap source_rank at in let r = last.0 in omega (arith, k, r))
    ]
    one_near x (derived b c is) on at = absurd (let k = ap source_rank at in let r = (derived_rank S b x is).0 in omega (arith, k, r))
    one_near x (neighbor n c near) on at =
        let same : a ≡ n.addr = ap (λ z. z.bits) (on ∙ (near_rank S n x near).1) in (
          n.interface,
          (n, c, refl, sym same),
          by (attached_by S a) (subst (λ z. is_interface (attached_by S z) n.interface ≡ true) (sym same) (near_from S n x near).0),
        )
      where
        by : (o : Option ℕ) → is_interface o n.interface ≡ true → o ≡ Some n.interface
        by None h = absurd (false≢true h)
        by (Some j) h = ap Some (sym ((Decides-eqb n.interface j).0 h))

    pub near_part : IsPart (pairs S) (host a) sources.Adjacency (near_at S a (attached_by S a))
    near_part = by (attached_by S a) refl
      where
        with_mac : (i : ℕ) (m : Option ℕ) → attached_by S a ≡ Some i → mac_of S i a ≡ m → IsPart (pairs S) (host a) sources.Adjacency (near_with a i m)
        with_mac i None at e = nowhere (pairs S) (host a) sources.Adjacency (λ x c on is. (let r = one_near x (origin S x c) on is in
            let same : i ≡ r.0 = let both : Some i ≡ Some r.0 = sym at ∙ r.2 in cc in
            near_nowhere S i a e (subst (λ z. HasNeighbor S z a) (sym same) r.1)))
        with_mac i (Some mac) at e =
            let n = near_there S i a mac e in
            let own : is_interface (attached_by S n.0.addr) n.0.interface ≡ true = ap
            (λ z. is_interface (attached_by S z) n.0.interface) n.3 ∙ ap (λ o. is_interface o n.0.interface) at
            ∙ (Decides-eqb n.0.interface i).1 n.2 in
            let is : one (host n.0.addr) sources.Adjacency (kinds.Hop n.0.addr n.0.interface) ≡ one (host a) sources.Adjacency (kinds.Hop a i) =
            ap (λ z. one (host z) sources.Adjacency (kinds.Hop z n.0.interface)) n.3 ∙ ap (λ z. one (host a) sources.Adjacency (kinds.Hop a z)) n.2 in
            there (pairs S) (host a) sources.Adjacency (one (host a) sources.Adjacency (kinds.Hop a i)) (one_pair S sound)
            (from_origin S (one (host a) sources.Adjacency (kinds.Hop a i))
            (neighbor n.0 n.1 (subst (Contains (neighbor_pairs S n.0)) is (near_in S n.0 own)))) refl refl

        by : (o : Option ℕ) → attached_by S a ≡ o → IsPart (pairs S) (host a) sources.Adjacency (near_at S a o)
        by None at = nowhere (pairs S) (host a) sources.Adjacency
            (λ x c on is. (let r = one_near x (origin S x c) on is in let bad : Some r.0 ≡ None = sym r.2 ∙ at in absurd (cc)))
        by (Some i) at = with_mac i (mac_of S i a) at refl

    one_hop : (x : Pair) → Origin S x → host a ≡ x.prefix → sources.RecursiveResolution ≡ x.source → Contains (all_hops S) a
    one_hop x (base own) on at = elim (base_rank S sound x (base_origin S x own)) [
      | inl early ↦ absurd (let k = ap source_rank at in omega (arith, k, early))
      | inr last ↦ absurd (let k = ap source_rank at in let r = last.0 in omega (arith, k, r))
    ]
    one_hop x (neighbor n c near) on at = absurd (let k = ap source_rank at in let r = (near_rank S n x near).0 in omega (arith, k, r))
    one_hop x (derived b c is) on at = subst (Contains (all_hops S)) (ap (λ z. z.bits) (sym (derived_rank S b x is).1 ∙ sym on)) c

    pub hop_part : (b : Bool) → IsTrue b ↔ Contains (all_hops S) a → IsPart (pairs S) (host a) sources.RecursiveResolution (hop_at a (attached_by S a) b)
    hop_part true h = there (pairs S) (host a) sources.RecursiveResolution
        (one (host a) sources.RecursiveResolution (derived_kind a (attached_by S a))) (one_pair S sound)
        (from_origin S (one (host a) sources.RecursiveResolution (derived_kind a (attached_by S a))) (derived a (h.0 refl) (derived_is S a))) refl refl
    hop_part false h = nowhere (pairs S) (host a) sources.RecursiveResolution (λ x c on is. absurd (false≢true (h.1 (one_hop x (origin S x c) on is))))

    late_of : (x : Pair) → Origin S x → (source_rank x.source < 4) → Contains (base_pairs S) x
    late_of x (base own) low = own
    late_of x (neighbor n c near) low = absurd (let r = (near_rank S n x near).0 in omega (arith, r, low))
    late_of x (derived b c is) low = absurd (let r = (derived_rank S b x is).0 in omega (arith, r, low))

    host_low : (x : Pair) → Contains (base_pairs S) x → host a ≡ x.prefix → source_rank x.source < 4
    host_low x c on = elim (base_rank S sound x (base_origin S x c)) [
      | inl early ↦ early
      | inr last ↦ absurd (let l : 0 ≡ 32 = ap (λ z. z.len) (last.1 ∙ sym on) in omega (arith, l))
    ]

    first_four : (xs : List Pair) → ArePairsAt (base_pairs S) (host a) xs → AreFirst (pairs S) (host a) 4 xs
    first_four xs h = record {
      by_rank = h.by_rank;
      below = each-weaker (Contains xs) (λ x. source_rank x.source < 4) (λ x c. (let r = (h.are x).0 c in host_low x r.0 r.1)) xs (each-itself xs);
      are = λ x. (
        λ c. (let r = (h.are x).0 c in (from_origin S x (base r.0), r.1, host_low x r.0 r.1)),
        λ f. (h.are x).1 (late_of x (origin S x f.0) f.2, f.1),
      );
    }

    no_default : (x : Pair) → Contains (pairs S) x → host a ≡ x.prefix → sources.DefaultRoute ≡ x.source → ⊥
    no_default x c on at = by (origin S x c)
      where
        by : Origin S x → ⊥
        by (base own) = (let k = ap source_rank at in let low = host_low x own on in omega (arith, k, low))
        by (neighbor n d near) = (let k = ap source_rank at in let r = (near_rank S n x near).0 in omega (arith, k, r))
        by (derived b d is) = (let k = ap source_rank at in let r = (derived_rank S b x is).0 in omega (arith, k, r))

    -- a host's pairs
    pub host_is : (xs : List Pair) (b : Bool) → ArePairsAt (base_pairs S) (host a) xs → IsTrue b ↔ Contains (all_hops S) a
        → ArePairsAt (pairs S) (host a) (xs ++ near_at S a (attached_by S a) ++ hop_at a (attached_by S a) b)
    host_is xs b h hop =
        let near = near_at S a (attached_by S a) in
        let hops = hop_at a (attached_by S a) b in
        let five = joined (pairs S) (host a) sources.Adjacency 4 xs near (first_four xs h) near_part refl in
        let six = joined (pairs S) (host a) sources.RecursiveResolution 5 (xs ++ near) hops five (hop_part b hop) refl in
        finished (pairs S) (host a) (xs ++ near ++ hops) (skipped (pairs S) (host a) sources.DefaultRoute 6 (xs ++ near ++ hops) six no_default refl)

  -- those of a shorter prefix depend on no cover
  short_base : (q : Prefix) (x : Pair) → q.len < 32 → q ≡ x.prefix → Contains (pairs S) x → Contains (base_pairs S) x
  short_base q x short on c = by (origin S x c)
    where
      by : Origin S x → Contains (base_pairs S) x
      by (base own) = own
      by (neighbor n d near) = absurd (let l = ap (λ z. z.len) (on ∙ (near_rank S n x near).1) in omega (arith, l, short))
      by (derived b d is) = absurd (let l = ap (λ z. z.len) (on ∙ (derived_rank S b x is).1) in omega (arith, l, short))

  pub short_is : (p : Prefix) (xs : List Pair) → p.len < 32 → ArePairsAt (base_pairs S) p xs → ArePairsAt (pairs S) p xs
  short_is p xs short h = record {
    by_rank = h.by_rank;
    are = λ x. (
      λ c. (let r = (h.are x).0 c in (from_origin S x (base r.0), r.1)),
      λ f. (h.are x).1 (short_base p x short f.1 f.0, f.1),
    );
  }

  -- the first is the best
  first_paths : (all : List Pair) (q : Prefix) (xs : List Pair)
      → ((x y : Pair) → Contains all x → Contains all y → x.prefix ≡ y.prefix → x.source ≡ y.source → x ≡ y)
      → ArePairsAt all q xs → paths_in xs ≡ paths_of (best_pair q all)
  first_paths all q xs unique h = by xs h (best_pair q all) (best_of q all)
    where
      after : (y x : Pair) (zs : List Pair) → Contains zs x → AllByRecursion (λ z. source_rank y.source < source_rank z.source) zs
          → source_rank y.source < source_rank x.source
      after y x [] d low = absurd (Contains-nil x d)
      after y x (z ∷ zs) d low = elim
          (in_cases z x zs d) [
            | inl is ↦ subst
                (λ w. source_rank y.source < source_rank w.source) is low.0
            | inr on ↦ after y x zs on low.1
          ]

      least : (y x : Pair) (ys : List Pair) → AreBetterFirst (y ∷ ys) → Contains (y ∷ ys) x → source_rank y.source ≤ source_rank x.source
      least y x ys k c = elim (in_cases y x ys c) [
        | inl is ↦ (let r = ap (λ z. source_rank z.source) is in omega (arith, r))
        | inr later ↦ (let lt = after y x ys later k.0 in omega (arith, lt))
      ]

      by : (ys : List Pair) → ArePairsAt all q ys → (o : Option Pair) → BestOf q all o → paths_in ys ≡ paths_of o
      by [] k None b = refl
      by [] k (Some x) b = absurd (Contains-nil x ((k.are x).1 (b.member, b.own)))
      by (y ∷ ys) k None b = (let r = (k.are y).0 (in_front y y ys refl) in absurd (b y r.0 r.1))
      by (y ∷ ys) k (Some x) b =
          let r = (k.are y).0 (in_front y y ys refl) in
          let up = least y x ys k.by_rank ((k.are x).1 (b.member, b.own)) in
          let down = b.least y r.0 r.1 in
          ap (λ z. z.paths) (unique y x r.0 b.member (sym r.1 ∙ b.own) (source_by_rank y.source x.source (omega (arith, up, down))))

  pub attached_first : (q : Prefix) (xs : List Pair) → ArePairsAt (base_pairs S) q xs → attached_of (paths_in xs) ≡ attached_at S q
  attached_first q xs h = ap attached_of (first_paths (base_pairs S) q xs (one_base_pair S sound) h)

  pub first_is_chosen : (q : Prefix) (xs : List Pair) → ArePairsAt (pairs S) q xs → paths_in xs ≡ chosen S q
  unfolding chosen
  first_is_chosen q xs h = first_paths (pairs S) q xs (one_pair S sound) h

  -- a prefix that can cover attaches as its chosen list says
  pub attached_chosen : (q : Prefix) → q.len < 32 → attached_of (chosen S q) ≡ attached_at S q
  unfolding chosen
  attached_chosen q short = ap attached_of
      (best_paths_same q (pairs S) (base_pairs S) (λ x y c d own is. ap (λ z. z.paths) (one_base_pair S sound x y c d own is))
      (λ x own. (λ c. short_base q x short own c, λ c. from_origin S x (base c))) (best_pair q (pairs S)) (best_pair q (base_pairs S))
      (best_of q (pairs S)) (best_of q (base_pairs S)))

pub attached_through : (S : Tables) (a : ℕ) → attached_at S (cover S a) ≡ attached_by S a
unfolding attached_by
attached_through S a = refl

-- a route's own list
own_paths : (S : Tables) → IsSound S → (r : Route) → Contains S.routes r → paths_at r.prefix r.source S.routes ≡ r.paths
own_paths S sound r c = by (paths_at r.prefix r.source S.routes) refl
  where
    some : AllByRecursion (λ q. 0 < length q.paths) S.routes
    some = each-weaker (IsSoundRoute (length S.interfaces)) (λ q. 0 < length q.paths) (λ q h. h.some) S.routes sound.routes

    by : (ps : List Path) → paths_at r.prefix r.source S.routes ≡ ps → ps ≡ r.paths
    by [] e = absurd (no_route S sound r.prefix r.source S.routes some e r c refl refl)
    by (q ∷ qs) e =
        let f = found_route S sound r.prefix r.source S.routes q qs e in
        let own = from_base_origin S (route_pair r) (route r c refl) in
        let other = from_base_origin S (route_pair f.0) (route f.0 f.1 refl) in
        sym f.4 ∙ ap (λ z. z.paths) (one_base_pair S sound (route_pair f.0) (route_pair r) other own f.2 f.3)

to_hop : (o : Option ℕ) (a : ℕ) → is_interface o a ≡ true → o ≡ Some a
to_hop None a h = absurd (false≢true h)
to_hop (Some b) a h = ap Some (sym ((Decides-eqb a b).0 h))

from_hop : (o : Option ℕ) (a : ℕ) → o ≡ Some a → is_interface o a ≡ true
from_hop o a e = ap (λ z. is_interface z a) e ∙ (Decides-eqb a a).1 refl

hop_in : (ps : List Path) (p : Path) (a : ℕ) → Contains ps p → recursive_of p ≡ Some a → Contains (filter_map recursive_of ps) a
hop_in [] p a c e = absurd (Contains-nil p c)
hop_in (q ∷ qs) p a c e = by (recursive_of q) refl (λ later. hop_in qs p a later e)
  where
    by : (o : Option ℕ) → recursive_of q ≡ o → (Contains qs p → Contains (filter_map recursive_of qs) a) → Contains (filter_map recursive_of (q ∷ qs)) a
    by None f rest = elim (in_cases q p qs c) [ inl is ↦ absurd (let bad : Some a ≡ None = sym e ∙ ap recursive_of (sym is) ∙ f in cc) | inr later ↦ rw f (rest later) ]
    by (Some b) f rest = elim (in_cases q p qs c) [
      | inl is ↦ rw f (in_front b a (filter_map recursive_of qs) (let both : Some b ≡ Some a = sym f ∙ ap recursive_of is ∙ e in cc))
      | inr later ↦ rw f (in_rest b a (filter_map recursive_of qs) (rest later))
    ]

abbrev HasHop : List Path → ℕ → Type 0
HasHop ps a = (p : Path) × Contains ps p × (recursive_of p ≡ Some a)

hop_from : (ps : List Path) (a : ℕ) → Contains (filter_map recursive_of ps) a → HasHop ps a
hop_from [] a c = absurd (Contains-nil a c)
hop_from (q ∷ qs) a c = by (recursive_of q) refl (λ d. (let r = hop_from qs a d in (r.0, in_rest q r.0 qs r.1, r.2)))
  where
    by : (o : Option ℕ) → recursive_of q ≡ o → (Contains (filter_map recursive_of qs) a → HasHop (q ∷ qs) a) → HasHop (q ∷ qs) a
    by None f rest = rest (rw f at c)
    by (Some b) f rest = elim (in_cases b a (filter_map recursive_of qs) (rw f at c)) [ inl is ↦ (q, in_front q q qs refl, f ∙ ap Some is) | inr later ↦ rest later ]

module _ (S : Tables) (sound : IsSound S) (a : ℕ) where
  led : (q : Prefix) (s : FibSource) → list_any (leads_to a) (paths_at q s S.routes) ≡ true → Contains (all_hops S) a
  led q s h = by (paths_at q s S.routes) refl (any_from (leads_to a) (paths_at q s S.routes) h)
    where
      by : (ps : List Path) → paths_at q s S.routes ≡ ps → (p : Path) × Contains (paths_at q s S.routes) p × (leads_to a p ≡ true) → Contains (all_hops S) a
      by [] e w = absurd (Contains-nil w.0 (subst (λ l. Contains l w.0) e w.1))
      by (p ∷ ps) e w =
          let f = found_route S sound q s S.routes p ps e in
          let there_too = subst (λ l. Contains l w.0) (e ∙ sym f.4) w.1 in
          Contains-flat_map recursive_hops S.routes f.0 a f.1 (hop_in f.0.paths w.0 a there_too (to_hop (recursive_of w.0) a w.2))

  leads : (r : Route) (s : FibSource) → r.source ≡ s → Contains S.routes r → Contains (recursive_hops r) a
      → list_any (leads_to a) (paths_at r.prefix s S.routes) ≡ true
  leads r s is c h =
      let w = hop_from r.paths a h in
      let own : paths_at r.prefix s S.routes ≡ r.paths = ap (λ z. paths_at r.prefix z S.routes) (sym is) ∙ own_paths S sound r c in
      any_in (leads_to a) (paths_at r.prefix s S.routes) w.0 (subst (λ l. Contains l w.0) (sym own) w.1) (from_hop (recursive_of w.0) a w.2)

  way_of : (r : Route) → Contains S.routes r → Contains (recursive_hops r) a → is_way S a r.prefix ≡ true
  way_of r c h = elim (sound_route S sound r c).written [
    | inl api ↦ or_left (list_any (leads_to a) (paths_at r.prefix sources.Api S.routes)) _ (leads r sources.Api api c h)
    | inr cli ↦ or_right (list_any (leads_to a) (paths_at r.prefix sources.Api S.routes))
        (list_any (leads_to a) (paths_at r.prefix sources.Cli S.routes)) (leads r sources.Cli cli c h)
  ]

  -- an address is a next hop exactly where one of the routes' prefixes has it
  pub ways_are : (among : List Prefix) → HoldsWays S a among → IsTrue (list_any (is_way S a) among) ↔ Contains (all_hops S) a
  ways_are among known = (
    λ h. (let w = any_from (is_way S a) among h in
        elim (or_cases (list_any (leads_to a) (paths_at w.0 sources.Api S.routes)) (list_any (leads_to a) (paths_at w.0 sources.Cli S.routes)) w.2) [
          | inl api ↦ led w.0 sources.Api api
          | inr cli ↦ led w.0 sources.Cli cli
        ]),
    λ c. (let r = flat_map_from recursive_hops S.routes a c in any_in (is_way S a) among r.0.prefix (known r.0 r.1 r.2) (way_of r.0 r.1 r.2)),
  )

-- a prefix of length 32 is that of its address
pub host_again : (S : Tables) (p : Prefix) (xs : List Pair) → p.len ≡ 32 → ArePairsAt (pairs S) (host p.bits) xs → ArePairsAt (pairs S) p xs
host_again S p xs long h = subst (λ q. ArePairsAt (pairs S) q xs) (same_fields (host p.bits) p (refl, sym long)) h
