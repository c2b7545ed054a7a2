-- What the pairs of a prefix depend on, and what depends on them.
use Rattle.std.proofs.Common.{not, arith, ◌≡◌, ℕ, zero, suc, Bool, true, false, cond, List, [], ◌∷◌, ◌++◌, map, Option, Some, None, inl, inr, refl, sym, ◌∙◌, ap, subst, ◌↔◌, ◌==◌}
use Rattle.std.specs.Prelude.{Contains, flat_map}
use Rattle.fib_base_list.proofs.Lists.{Contains-flat_map, Contains-nil}
use Rattle.std.proofs.lemmas.List.Elements.{Contains-append_left, Contains-append_right, Contains-append_cases}
use Rattle.std.proofs.lemmas.Bool.{false≢true}
use Rattle.fib_addr.specs.Prefixes.{Prefix, host}
use Rattle.fib_resolve.specs.Pairs.{base_pairs, all_pairs, pairs, chosen, cover, attached_by, neighbor_pairs, derived_pair, derived_kind, is_interface, one, best_pair, is_derived, is_derived_pair, same_pair}
use Rattle.fib_resolve.specs.Forwarding.{is_met, is_attached_list}
use Rattle.fib_resolve.specs.Loops.{targets, kind_targets}
use Rattle.fib_resolve.specs.Tables.{IsSound}
use Rattle.fib_resolve.specs.declared.pairs.Pair.{Pair}
use Rattle.fib_resolve.specs.declared.types.PathKind.{PathKind}
use Rattle.fib_resolve.specs.declared.types.PathKind.TheVariants as kinds
use Rattle.fib_resolve.specs.declared.types.Need.{Need}
use Rattle.fib_resolve.specs.declared.types.Need.TheVariants as needs
use Rattle.fib_resolve.specs.declared.types.FibSource.TheVariants as sources
use Rattle.fib_resolve.specs.declared.types.Neighbor.{Neighbor}
use Rattle.fib_resolve.specs.declared.types.Tables.{Tables}
use Rattle.fib_resolve.proofs.OneList.{one_list}
use Rattle.fib_resolve.proofs.Touching.{same_pair-Decides, same_pair_equiv, best_of, best_paths_same, BestOf}
use Rattle.fib_resolve.proofs.Covering.{unique_in}
use Rattle.fib_resolve_changes.specs.Sources.{all_hops, SameSources, SamePairs, SameEntry}

pub flat_map_from : {X Y : Type 0} (f : X → List Y) (xs : List X) (y : Y) → Contains (flat_map f xs) y → (x : X) × Contains xs x × Contains (f x) y
flat_map_from f [] y c = absurd (Contains-nil y c)
flat_map_from f (x ∷ xs) y c =
    elim (Contains-append_cases (f x) (flat_map f xs) y c) [
      | inl here ↦ (x, (0, omega arith, refl), here)
      | inr later ↦ (let r = flat_map_from f xs y later in (r.0, (suc r.1.0, omega (arith, r.1.1), r.1.2), r.2))
    ]

pub map_in : {X Y : Type 0} (f : X → Y) (xs : List X) (x : X) → Contains xs x → Contains (map f xs) (f x)
map_in f [] x c = absurd (Contains-nil x c)
map_in f (y ∷ ys) x (zero, lt, is) = (0, omega arith, ap f is)
map_in f (y ∷ ys) x (suc k, lt, is) = let r = map_in f ys x (k, omega (arith, lt), is) in (suc r.0, omega (arith, r.1), r.2)

pub map_from : {X Y : Type 0} (f : X → Y) (xs : List X) (y : Y) → Contains (map f xs) y → (x : X) × Contains xs x × (f x ≡ y)
map_from f [] y c = absurd (Contains-nil y c)
map_from f (x ∷ xs) y (zero, lt, is) = (x, (0, omega arith, refl), is)
map_from f (x ∷ xs) y (suc k, lt, is) = let r = map_from f xs y (k, omega (arith, lt), is) in (r.0, (suc r.1.0, omega (arith, r.1.1), r.1.2), r.2)

-- where a pair comes from
pub data Origin (S : Tables) (x : Pair) : Type 0 where
  base : Contains (base_pairs S) x → Origin S x
  neighbor : (n : Neighbor) → Contains S.neighbors n → Contains (neighbor_pairs S n) x → Origin S x
  derived : (a : ℕ) → Contains (all_hops S) a → derived_pair S a ≡ x → Origin S x

pub origin : (S : Tables) (x : Pair) → Contains (pairs S) x → Origin S x
unfolding pairs all_pairs
origin S x c =
    let d = (unique_in same_pair same_pair_equiv (λ a b. (same_pair-Decides a b).0) (all_pairs S) x).1 c in
    elim (Contains-append_cases (base_pairs S ++ flat_map (neighbor_pairs S) S.neighbors) (map (derived_pair S) (all_hops S)) x d) [
      | inl early ↦ elim (Contains-append_cases (base_pairs S) (flat_map (neighbor_pairs S) S.neighbors) x early) [
        | inl own ↦ base own
        | inr near ↦ (let r = flat_map_from (neighbor_pairs S) S.neighbors x near in neighbor r.0 r.1 r.2)
      ]
      | inr late ↦ (let r = map_from (derived_pair S) (all_hops S) x late in derived r.0 r.1 r.2)
    ]

pub from_origin : (S : Tables) (x : Pair) → Origin S x → Contains (pairs S) x
unfolding pairs all_pairs
from_origin S x o = (unique_in same_pair same_pair_equiv (λ a b. (same_pair-Decides a b).0) (all_pairs S) x).0 (among o)
  where
    among : Origin S x → Contains ((base_pairs S ++ flat_map (neighbor_pairs S) S.neighbors) ++ map (derived_pair S) (all_hops S)) x
    among (base own) = Contains-append_left _ _ x (Contains-append_left (base_pairs S) _ x own)
    among (neighbor n c near) = Contains-append_left _ _ x (Contains-append_right (base_pairs S) _ x (Contains-flat_map (neighbor_pairs S) S.neighbors n x c near))
    among (derived a c is) = Contains-append_right _ _ x (subst (Contains (map (derived_pair S) (all_hops S))) is (map_in (derived_pair S) (all_hops S) a c))

one_in : (b : Bool) (y x : Pair) → Contains (cond b (y ∷ []) []) x → (b ≡ true) × (y ≡ x)
one_in true y x (zero, lt, is) = (refl, is)
one_in true y x (suc k, lt, is) = absurd (omega (arith, lt))
one_in false y x c = absurd (Contains-nil x c)

one_there : (b : Bool) (y x : Pair) → b ≡ true → y ≡ x → Contains (cond b (y ∷ []) []) x
one_there true y x e is = (0, omega arith, is)
one_there false y x e is = absurd (false≢true e)

pub near_pair : ℕ → ℕ → Pair
near_pair a i = one (host a) sources.Adjacency (kinds.Hop a i)

pub near_from : (S : Tables) (n : Neighbor) (x : Pair) → Contains (neighbor_pairs S n) x → (is_interface (attached_by S n.addr) n.interface ≡ true) × (near_pair n.addr n.interface ≡ x)
unfolding neighbor_pairs near_pair
near_from S n x c = one_in (is_interface (attached_by S n.addr) n.interface) _ x c

near_in : (S : Tables) (n : Neighbor) (x : Pair) → is_interface (attached_by S n.addr) n.interface ≡ true → near_pair n.addr n.interface ≡ x → Contains (neighbor_pairs S n) x
unfolding neighbor_pairs near_pair
near_in S n x e is = one_there (is_interface (attached_by S n.addr) n.interface) _ x e is

pub near_host : (a i : ℕ) → (near_pair a i).prefix ≡ host a
unfolding near_pair
near_host a i = refl

pub near_is : (a i : ℕ) → near_pair a i ≡ one (host a) sources.Adjacency (kinds.Hop a i)
unfolding near_pair
near_is a i = refl

pub derived_host : (S : Tables) (a : ℕ) → (derived_pair S a).prefix ≡ host a
unfolding derived_pair
derived_host S a = refl

derived_same : (S T : Tables) (a : ℕ) → attached_by S a ≡ attached_by T a → derived_pair S a ≡ derived_pair T a
unfolding derived_pair
derived_same S T a e = ap (λ o. one (host a) sources.RecursiveResolution (derived_kind a o)) e

carried : (S T : Tables) (e : Prefix) → SameSources S T e → (x : Pair) → e ≡ x.prefix → Origin S x → Origin T x
carried S T e same x p (base own) = base ((same.base x p).0 own)
carried S T e same x p (neighbor n c near) =
    let r = near_from S n x near in
    let at : e ≡ host n.addr = p ∙ ap (λ z. z.prefix) (sym r.1) ∙ near_host n.addr n.interface in
    let m = (same.neighbor n.addr n.interface at).0 (n, c, refl, refl) in
    let there : is_interface (attached_by T m.0.addr) m.0.interface ≡ true =
    ap (λ z. is_interface (attached_by T z) m.0.interface) m.3 ∙ ap (is_interface (attached_by T n.addr)) m.2 ∙ ap (λ o. is_interface o n.interface) (sym (same.attached n.addr at)) ∙ r.0 in
    neighbor m.0 m.1 (near_in T m.0 x there (ap (λ z. near_pair z m.0.interface) m.3 ∙ ap (near_pair n.addr) m.2 ∙ r.1))
carried S T e same x p (derived a c is) =
    let at : e ≡ host a = p ∙ ap (λ z. z.prefix) (sym is) ∙ derived_host S a in
    derived a ((same.hop a at).0 c) (sym (derived_same S T a (same.attached a at)) ∙ is)

turned : (S T : Tables) (e : Prefix) → SameSources S T e → SameSources T S e
turned S T e same = record {
  base = λ x p. ((same.base x p).1, (same.base x p).0);
  attached = λ a p. sym (same.attached a p);
  neighbor = λ a i p. ((same.neighbor a i p).1, (same.neighbor a i p).0);
  hop = λ a p. ((same.hop a p).1, (same.hop a p).0);
}

-- a prefix whose sources are the same has the same pairs
pub same_pairs_from : (S T : Tables) (e : Prefix) → SameSources S T e → SamePairs S T e
same_pairs_from S T e same x p = (
  λ c. from_origin T x (carried S T e same x p (origin S x c)),
  λ c. from_origin S x (carried T S e (turned S T e same) x p (origin T x c)),
)

-- and the same chosen list
pub same_chosen : (S T : Tables) (e : Prefix) → IsSound T → SamePairs S T e → chosen S e ≡ chosen T e
unfolding chosen
same_chosen S T e sound same =
    best_paths_same e (pairs S) (pairs T) (one_list T sound) same (best_pair e (pairs S)) (best_pair e (pairs T)) (best_of e (pairs S)) (best_of e (pairs T))

best_rank_same : (e : Prefix) (xs ys : List Pair) → ((x : Pair) → e ≡ x.prefix → Contains xs x ↔ Contains ys x) → (o q : Option Pair) → BestOf e xs o → BestOf e ys q → is_derived_pair o ≡ is_derived_pair q
best_rank_same e xs ys same None None h k = refl
best_rank_same e xs ys same None (Some y) h k = absurd (h y ((same y k.own).1 k.member) k.own)
best_rank_same e xs ys same (Some x) None h k = absurd (k x ((same x h.own).0 h.member) h.own)
best_rank_same e xs ys same (Some x) (Some y) h k =
    let up = k.least x ((same x h.own).0 h.member) h.own in
    let down = h.least y ((same y k.own).1 k.member) k.own in
    ap (λ n. n == 5) (omega (arith, up, down))

pub same_derived : (S T : Tables) (e : Prefix) → SamePairs S T e → is_derived S e ≡ is_derived T e
unfolding is_derived
same_derived S T e same = best_rank_same e (pairs S) (pairs T) same (best_pair e (pairs S)) (best_pair e (pairs T)) (best_of e (pairs S)) (best_of e (pairs T))

-- and meets the same needs
pub same_met : (S T : Tables) (need : Need) (a : ℕ) → IsSound T → SamePairs S T (host a) → is_met S need a ≡ is_met T need a
same_met S T needs.Any a sound same = refl
same_met S T needs.Host a sound same = ap not (same_derived S T (host a) same)
same_met S T needs.Attached a sound same = ap is_attached_list (same_chosen S T (host a) sound same)

kind_goals : (S T : Tables) (e : Prefix) (kind : PathKind) → (kind ≡ kinds.Cover → cover S e.bits ≡ cover T e.bits) → kind_targets S e kind ≡ kind_targets T e kind
kind_goals S T e kinds.Drop same = refl
kind_goals S T e kinds.Local same = refl
kind_goals S T e (kinds.Attached i) same = refl
kind_goals S T e (kinds.Hop a i) same = refl
kind_goals S T e (kinds.Recursive a) same = refl
kind_goals S T e kinds.Cover same = ap (λ z. z ∷ []) (same refl)

flat_same : {X Y : Type 0} (f g : X → List Y) (xs : List X) → ((x : X) → Contains xs x → f x ≡ g x) → flat_map f xs ≡ flat_map g xs
flat_same f g [] h = refl
flat_same f g (x ∷ xs) h = ap (λ l. l ++ flat_map f xs) (h x (0, omega arith, refl)) ∙ ap (λ l. g x ++ l) (flat_same f g xs (λ y c. h y (suc c.0, omega (arith, c.1), c.2)))

-- the same entry has the same edges
pub same_targets : (S T : Tables) (e : Prefix) → IsSound T → SameEntry S T e → targets S e ≡ targets T e
unfolding targets
same_targets S T e sound same =
    flat_same (λ p. kind_targets S e p.kind) (λ p. kind_targets T e p.kind) (chosen S e) (λ p c. kind_goals S T e p.kind (same.cover p c))
    ∙ ap (λ ps. flat_map (λ p. kind_targets T e p.kind) ps) (same_chosen S T e sound same.pairs)
