-- What is looked at has each entry that is another.
use Rattle.std.proofs.Common.{arith, ◌≡◌, ℕ, ◌≤◌, ◌^◌, Bool, false, cond, ◌==◌, List, [], ◌∷◌, ◌++◌, map, length, Option, Some, None, ◌⊎◌, inl, inr, refl, sym, ◌∙◌, ap, subst, ◌↔◌}
use Rattle.std.specs.Prelude.{Contains, flat_map, find, IfSome, nat_lt}
use Rattle.std.specs.List.{AllByRecursion, list_any}
use Rattle.std.proofs.lemmas.Bool.{ltb-true, ltb-false}
use Rattle.std.proofs.lemmas.Bool.Decides.{Decides-eqb}
use Rattle.std.proofs.lemmas.List.Elements.{Contains-append_cases}
use Rattle.fib_base_list.proofs.Lists.{either, each-weaker, Contains-nil}
use Rattle.fib_addr.specs.Prefixes.{Prefix, host, masked}
use Rattle.fib_addr.specs.Longest.{everything}
use Rattle.fib_resolve.specs.Pairs.{base_pairs, pairs, chosen, fixed_pairs, connected_pairs, edge_pairs, edge_pair, edge_addresses, route_pair, one, plain, attached_by, best_pair, paths_of}
use Rattle.fib_resolve.specs.Resolution.{is_neighbor}
use Rattle.fib_resolve.specs.Tables.{IsSound, IsSoundPath, IsSoundRoute}
use Rattle.fib_resolve.specs.declared.pairs.Pair.{Pair}
use Rattle.fib_resolve.specs.declared.types.Path.{Path}
use Rattle.fib_resolve.specs.declared.types.PathKind.{PathKind}
use Rattle.fib_resolve.specs.declared.types.PathKind.TheVariants as kinds
use Rattle.fib_resolve.specs.declared.types.FibSource.{FibSource}
use Rattle.fib_resolve.specs.declared.types.FibSource.TheVariants as sources
use Rattle.fib_resolve.specs.declared.types.Address.{Address}
use Rattle.fib_resolve.specs.declared.types.Neighbor.{Neighbor}
use Rattle.fib_resolve.specs.declared.types.Tables.{Tables}
use Rattle.fib_resolve.proofs.OneList.{each-itself}
use Rattle.fib_resolve.proofs.PairLaws.{best_has, cover_at_host}
use Rattle.fib_resolve_changes.specs.Causes.{IsCaught}
use Rattle.fib_resolve_changes.specs.Differ.{Differ}
use Rattle.fib_resolve_changes.specs.Looked.{IsHosted, IsPassed, AreLooked, AreAddresses}
use Rattle.fib_resolve_changes.specs.Named.{own_in, hop_in, near_in}
use Rattle.fib_resolve_changes.specs.Sources.{ArePrefixes, HasNeighbor, SameEntry, all_hops}
use Rattle.fib_resolve_changes.specs.declared.change.Change.{Change}
use Rattle.fib_resolve_changes.proofs.Addresses.{edge_of, single, when}
use Rattle.fib_resolve_changes.proofs.Edits.{in_cases, any_in, clash}
use Rattle.fib_resolve_changes.proofs.CauseLaws.{any_from}
use Rattle.fib_resolve_changes.proofs.Named.{base_named, hops_named, near_named, has_found, found_has}
use Rattle.fib_resolve_changes.proofs.SamePairs.{Origin, origin, from_origin, base, neighbor, derived, near_pair, near_is, near_from, derived_host, flat_map_from, map_from, same_pairs_from}
use Rattle.fib_resolve_changes.proofs.Unlooked.{carry, unlooked_same}

-- only a pair that a next hop makes has a path to the cover
abbrev HasNoCover : Pair → Type 0
HasNoCover x = (p : Path) → Contains x.paths p → p.kind ≡ kinds.Cover → ⊥

alone : (prefix : Prefix) (source : FibSource) (kind : PathKind) → (kind ≡ kinds.Cover → ⊥) → (x : Pair) → one prefix source kind ≡ x → HasNoCover x
alone prefix source kind other x is p c e = elim (in_cases (plain kind) p [] (subst (λ (z : Pair). Contains z.paths p) (sym is) c)) [
  | inl same ↦ other (ap (λ z. z.kind) same ∙ e)
  | inr none ↦ Contains-nil p none
]

drop_not : kinds.Drop ≡ kinds.Cover → ⊥
drop_not e = (cc)

local_not : kinds.Local ≡ kinds.Cover → ⊥
local_not e = (cc)

attached_not : (i : ℕ) → kinds.Attached i ≡ kinds.Cover → ⊥
attached_not i e = (cc)

hop_not : (a i : ℕ) → kinds.Hop a i ≡ kinds.Cover → ⊥
hop_not a i e = (cc)

drop_alone : (prefix : Prefix) (source : FibSource) → HasNoCover (one prefix source kinds.Drop)
drop_alone prefix source = alone prefix source kinds.Drop drop_not (one prefix source kinds.Drop) refl

each_at : {X : Type 0} (P : X → Type 0) (xs : List X) → AllByRecursion P xs → (x : X) → Contains xs x → P x
each_at P [] h x c = absurd (Contains-nil x c)
each_at P (y ∷ ys) h x c = elim (in_cases y x ys c) [ inl is ↦ subst P is h.0 | inr later ↦ each_at P ys h.1 x later ]

fixed_not : (x : Pair) → Contains fixed_pairs x → HasNoCover x
fixed_not x c = each_at HasNoCover fixed_pairs
    (drop_alone everything sources.Special, (drop_alone everything sources.Special, (drop_alone everything sources.Special, (drop_alone everything sources.Special, (drop_alone everything sources.Special, tt))))) x c

connected_not : (a : Address) (x : Pair) → Contains (connected_pairs a) x → HasNoCover x
connected_not a x c = elim (Contains-append_cases (cond (nat_lt a.len 32) (one (masked a.addr a.len) sources.Interface (kinds.Attached a.interface) ∷ []) []) (one (host a.addr) sources.Interface kinds.Local ∷ []) x c) [
  | inl near ↦ alone (masked a.addr a.len) sources.Interface (kinds.Attached a.interface) (attached_not a.interface) x (when (nat_lt a.len 32) (one (masked a.addr a.len) sources.Interface (kinds.Attached a.interface)) x near)
  | inr itself ↦ alone (host a.addr) sources.Interface kinds.Local local_not x (single (one (host a.addr) sources.Interface kinds.Local) x itself)
]

base_not : (S : Tables) → IsSound S → (x : Pair) → Contains (base_pairs S) x → HasNoCover x
unfolding base_pairs
base_not S sound x c = elim (Contains-append_cases (fixed_pairs ++ flat_map connected_pairs S.addresses ++ flat_map (edge_pairs S.addresses) S.addresses) (map route_pair S.routes) x c) [
  | inr late ↦ (let r = map_from route_pair S.routes x late in
      λ p k e. written (length S.interfaces) r.0.paths (routes_each S.routes sound.routes r.0 r.1) p (subst (λ (z : Pair). Contains z.paths p) (sym r.2) k) e)
  | inl early ↦ elim (Contains-append_cases (fixed_pairs ++ flat_map connected_pairs S.addresses) (flat_map (edge_pairs S.addresses) S.addresses) x early) [
    | inr edge ↦ (let r = flat_map_from (edge_pairs S.addresses) S.addresses x edge in
        let e = flat_map_from (edge_pair S.addresses) (edge_addresses r.0) x r.2 in
        alone _ _ kinds.Drop drop_not x (edge_of S.addresses e.0 x e.2).1)
    | inl front ↦ elim (Contains-append_cases fixed_pairs (flat_map connected_pairs S.addresses) x front) [
      | inl fixed ↦ fixed_not x fixed
      | inr near ↦ (let r = flat_map_from connected_pairs S.addresses x near in
          connected_not r.0 x r.2)
    ]
  ]
]
  where
    written : (n : ℕ) (ps : List Path) → AllByRecursion (IsSoundPath n) ps → (p : Path) → Contains ps p → p.kind ≡ kinds.Cover → ⊥
    written n [] h p c e = Contains-nil p c
    written n (q ∷ qs) h p c e = elim (in_cases q p qs c) [ inl is ↦ h.0.written (ap (λ z. z.kind) is ∙ e) | inr later ↦ written n qs h.1 p later e ]

    routes_each : (rs : List _) → AllByRecursion (IsSoundRoute (length S.interfaces)) rs → (r : _) → Contains rs r → AllByRecursion (IsSoundPath (length S.interfaces)) r.paths
    routes_each [] h r c = absurd (Contains-nil r c)
    routes_each (q ∷ qs) h r c = elim (in_cases q r qs c) [ inl is ↦ subst (λ z. AllByRecursion (IsSoundPath (length S.interfaces)) z.paths) is h.0.list.each | inr later ↦ routes_each qs h.1 r later ]

abbrev CoversAsHop : Tables → Pair → Type 0
CoversAsHop S x = (p : Path) → Contains x.paths p → p.kind ≡ kinds.Cover → (a : ℕ) → x.prefix ≡ host a → Contains (all_hops S) a

near_not : (n : Neighbor) (x : Pair) → near_pair n.addr n.interface ≡ x → HasNoCover x
near_not n x is = alone (host n.addr) sources.Adjacency (kinds.Hop n.addr n.interface) (hop_not n.addr n.interface) x (sym (near_is n.addr n.interface) ∙ is)

pair_hop : (S : Tables) → IsSound S → (x : Pair) → Contains (pairs S) x → CoversAsHop S x
pair_hop S sound x c = by (origin S x c)
  where
    by : Origin S x → CoversAsHop S x
    by (base own) p k e a at = absurd (base_not S sound x own p k e)
    by (neighbor n m near) p k e a at = absurd (near_not n x (near_from S n x near).1 p k e)
    by (derived b m is) p k e a at = subst (Contains (all_hops S)) (ap (λ (z : Prefix). z.bits) (sym (derived_host S b) ∙ (ap (λ (z : Pair). z.prefix) is ∙ at))) m

cover_hop : (S : Tables) → IsSound S → (a : ℕ) (p : Path) → Contains (chosen S (host a)) p → p.kind ≡ kinds.Cover → Contains (all_hops S) a
unfolding chosen
cover_hop S sound a p c e = by (best_pair (host a) (pairs S)) (best_has (CoversAsHop S) (host a) (pairs S) (each-weaker (Contains (pairs S)) (CoversAsHop S) (pair_hop S sound) (pairs S) (each-itself (pairs S)))) c
  where
    by : (o : Option Pair) → IfSome o (λ x. CoversAsHop S x × (host a ≡ x.prefix)) → Contains (paths_of o) p → Contains (all_hops S) a
    by None h k = absurd (Contains-nil p k)
    by (Some x) h k = h.0 p k e a (sym h.1)

-- whether a pair of the host depends on its cover
near_known : (S : Tables) (i a : ℕ) → HasNeighbor S i a ⊎ (HasNeighbor S i a → ⊥)
near_known S i a = by (find (is_neighbor i a) S.neighbors) refl
  where
    by : (o : Option Neighbor) → find (is_neighbor i a) S.neighbors ≡ o → HasNeighbor S i a ⊎ (HasNeighbor S i a → ⊥)
    by (Some m) is = inl (found_has i a S.neighbors m is)
    by None is = inr (λ h. (let f = has_found i a S.neighbors h.0 h.1 h.2 h.3 in none_is f.0 (sym is ∙ f.1)))
      where
        none_is : (m : Neighbor) → None ≡ Some m → ⊥
        none_is m e = (cc)

pub hosted_known : (S : Tables) (a : ℕ) → IsHosted S a ⊎ (IsHosted S a → ⊥)
hosted_known S a = elim (either (list_any (λ b. b == a) (all_hops S))) [
  | inl is ↦ (let r = any_from (λ b. b == a) (all_hops S) is in inl (inl (subst (Contains (all_hops S)) ((Decides-eqb r.0 a).0 r.2) r.1)))
  | inr isnt ↦ by (attached_by S a) refl (λ c. clash (list_any (λ b. b == a) (all_hops S)) (any_in (λ b. b == a) (all_hops S) a c ((Decides-eqb a a).1 refl)) isnt)
]
  where
    by : (o : Option ℕ) → attached_by S a ≡ o → (Contains (all_hops S) a → ⊥) → IsHosted S a ⊎ (IsHosted S a → ⊥)
    by None is off = inr (λ h. elim h [ inl c ↦ off c | inr w ↦ none_is w.0 (sym is ∙ w.2) ])
      where
        none_is : (i : ℕ) → None ≡ Some i → ⊥
        none_is i e = (cc)
    by (Some i) is off = elim (near_known S i a) [
      | inl near ↦ inl (inr (i, near, is))
      | inr far ↦ inr (λ h. elim h [ inl c ↦ off c | inr w ↦ far (subst (λ z. HasNeighbor S z a) (some_is w.0 i (sym w.2 ∙ is)) w.1) ])
    ]
      where
        some_is : (m n : ℕ) → Some m ≡ Some n → m ≡ n
        some_is m n e = (cc)

module _ (list : List Change) (S T : Tables) (looked changed : Prefix → Bool) (sound_before : IsSound S) (sound : IsSound T) (d : Differ list S T) (good_before : ArePrefixes S) (good : ArePrefixes T) (small : AreAddresses S T)
    (h : AreLooked list S T looked changed) where
  not_own : (q : Prefix) → looked q ≡ false → own_in list q ≡ false
  not_own q off = elim (either (own_in list q)) [ inl is ↦ absurd (clash (looked q) (h.own q is) off) | inr isnt ↦ isnt ]

  hops_same : (a : ℕ) → looked (host a) ≡ false → Contains (all_hops S) a ↔ Contains (all_hops T) a
  hops_same a off = hops_named list S T d a (elim (either (hop_in list S T a)) [ inl is ↦ absurd (clash (looked (host a)) (h.hop a is) off) | inr isnt ↦ isnt ])

  near_same : (a i : ℕ) → looked (host a) ≡ false → HasNeighbor S i a ↔ HasNeighbor T i a
  near_same a i off = near_named list S T d a i (elim (either (near_in list a)) [ inl is ↦ absurd (clash (looked (host a)) (h.near a is) off) | inr isnt ↦ isnt ])

  base_same : (q : Prefix) → looked q ≡ false → (x : Pair) → q ≡ x.prefix → Contains (base_pairs S) x ↔ Contains (base_pairs T) x
  base_same q off x at = base_named list S T d x (subst (λ z. own_in list z ≡ false) at (not_own q off))

  passed : (a : ℕ) → looked (host a) ≡ false → IsPassed S T a
  passed a off = record {
    base = base_same (host a) off;
    hops = hops_same a off;
    near = λ i. near_same a i off;
    stays = h.stays a off;
    between = h.between a off;
    came = h.came a off;
    went = h.went a off;
  }

  -- numbers that are no address
  far_before : (a : ℕ) → 2 ^ 32 ≤ a → IsHosted S a → ⊥
  far_before a far (inl hop) = (let lt = small.hops a hop in omega (arith, lt, far))
  far_before a far (inr w) = (let lt = small.near w.0 a w.1 w.2 in omega (arith, lt, far))

  far_after : (a : ℕ) → 2 ^ 32 ≤ a → looked (host a) ≡ false → IsHosted T a → ⊥
  far_after a far off (inl hop) = (let lt = small.hops a ((hops_same a off).1 hop) in omega (arith, lt, far))
  far_after a far off (inr w) = (let lt = small.near_after w.0 a w.1 w.2 in omega (arith, lt, far))

  at_host : (a : ℕ) → looked (host a) ≡ false → SameEntry S T (host a)
  at_host a off = elim (either (nat_lt a (2 ^ 32))) [
    | inl is ↦ (let u = unlooked_same S T a (ltb-true a (2 ^ 32) is) good_before good (passed a off) (hosted_known S a) in
        record { pairs = u.0; cover = λ p c e. u.1 (inl (cover_hop S sound_before a p c e)) })
    | inr isnt ↦ (let far = ltb-false a (2 ^ 32) isnt in record {
      pairs = λ x p. (
        λ c. from_origin T x (carry a S T x p (base_same (host a) off x p).0 (far_before a far) (origin S x c)),
        λ c. from_origin S x (carry a T S x p (base_same (host a) off x p).1 (far_after a far off) (origin T x c)),
      );
      cover = λ p c e. absurd (far_before a far (inl (cover_hop S sound_before a p c e)));
    })
  ]

  no_host : (e : Prefix) → (e.len ≡ 32 → ⊥) → looked e ≡ false → SameEntry S T e
  no_host e short off = record {
    pairs = same_pairs_from S T e (record {
      base = base_same e off;
      attached = λ a at. absurd (short (ap (λ z. z.len) at));
      neighbor = λ a i at. absurd (short (ap (λ z. z.len) at));
      hop = λ a at. absurd (short (ap (λ z. z.len) at));
    });
    cover = λ p c k. absurd (short (cover_at_host S sound_before e p c k));
  }

  pub caught : IsCaught S T changed
  caught e quiet = elim (either (looked e)) [
    | inl is ↦ h.compared e is quiet
    | inr off ↦ elim (either (e.len == 32)) [
      | inl long ↦ (let is : host e.bits ≡ e = as_host e ((Decides-eqb e.len 32).0 long) in
          subst (SameEntry S T) is (at_host e.bits (ap looked is ∙ off)))
      | inr short ↦ no_host e (λ l. clash (e.len == 32) ((Decides-eqb e.len 32).1 l) short) off
    ]
  ]
    where
      as_host : (e : Prefix) → e.len ≡ 32 → host e.bits ≡ e
      as_host e l = ap (λ n. with_len e.bits n) (sym l)
        where
          with_len : ℕ → ℕ → Prefix
          with_len b n = record { bits = b; len = n }

pub looks_catch : (list : List Change) (S T : Tables) (looked changed : Prefix → Bool) → IsSound S → IsSound T → Differ list S T → ArePrefixes S → ArePrefixes T → AreAddresses S T → AreLooked list S T looked changed → IsCaught S T changed
looks_catch = caught
