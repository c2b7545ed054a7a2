-- The graph over numbers has the walks of the entries.
use Rattle.std.proofs.Common.{◌≡◌, ℕ, zero, suc, ◌<◌, Bool, true, false, List, [], ◌∷◌, length, Option, Some, None, ◌⊎◌, inl, inr, refl, sym, ◌∙◌, ap, subst, ◌↔◌}
use Rattle.std.specs.Prelude.{Contains, filter_map, option_to_list, option_and_then, IsTrue}
use Rattle.std.specs.Set.{is_member}
use Rattle.std.proofs.lemmas.Bool.{false≢true}
use Rattle.std.proofs.lemmas.Bool.Decides.{same_from_decides}
use Rattle.std.proofs.lemmas.List.{get_or-map}
use Rattle.std.specs.List.{AllByRecursion}
use Rattle.std.proofs.lemmas.Map.Views.{list_any-from_Contains}
use Rattle.fib_base_list.proofs.Lists.{Contains-flat_map, either}
use Rattle.fib_reach.specs.Walks.{Walk, Reaches, Next}
use Rattle.fib_reach.specs.Graphs.{Edge, next_of}
use Rattle.fib_addr.specs.Prefixes.{Prefix, same_prefix, host}
use Rattle.fib_addr.proofs.PrefixLaws.{same_prefix_equiv}
use Rattle.fib_resolve.specs.Pairs.{entries, chosen}
use Rattle.fib_resolve.specs.Loops.{targets, kind_targets, looped, Looped}
use Rattle.fib_resolve.specs.declared.types.PathKind.{PathKind}
use Rattle.fib_resolve.specs.declared.types.PathKind.TheVariants as kinds
use Rattle.fib_resolve.specs.declared.types.Tables.{Tables}
use Rattle.fib_resolve.proofs.Entries.{targets_from_entries}
use Rattle.fib_resolve.proofs.LoopTests.{looped-Decides}
use Rattle.fib_resolve_pairs.specs.Numbers.{number_in, goal_of}
use Rattle.fib_resolve_pairs.specs.inner.Edges.{goal_number, next_numbers, graph_of}
use Rattle.fib_resolve_pairs.proofs.Numbers.{numbered, one_number, number_of_entry, unnumbered}
use Rattle.fib_resolve_pairs.proofs.Members.{filter_map_in, filter_map_from, flat_map_from, option_in, option_from, some_or_none}

goal_targets : (S : Tables) (e : Prefix) (kind : PathKind) → kind_targets S e kind ≡ option_to_list (goal_of S e kind)
goal_targets S e kinds.Drop = refl
goal_targets S e kinds.Local = refl
goal_targets S e (kinds.Attached i) = refl
goal_targets S e (kinds.Hop a i) = refl
goal_targets S e (kinds.Recursive a) = refl
goal_targets S e kinds.Cover = refl

then_some : {X Y : Type 0} (f : X → Option Y) (o : Option X) (y : Y) → option_and_then f o ≡ Some y → (x : X) × (o ≡ Some x) × (f x ≡ Some y)
then_some f None y h = cc
then_some f (Some x) y h = (x, refl, h)

pub some_goal : (S : Tables) (e : Prefix) (kind : PathKind) (j : ℕ) → goal_number S e kind ≡ Some j → (t : Prefix) × (goal_of S e kind ≡ Some t) × (number_in S t ≡ Some j)
unfolding goal_number
some_goal S e kind j h = then_some (number_in S) (goal_of S e kind) j h

each-filter_map : {X Y : Type 0} (P : Y → Type 0) (h : X → Option Y) → ((x : X) (y : Y) → h x ≡ Some y → P y) → (xs : List X) → AllByRecursion P (filter_map h xs)
each-filter_map P h f [] = tt
each-filter_map P h f (x ∷ xs) =
    elim (some_or_none (h x)) [
      | inl none ↦ rw none (each-filter_map P h f xs)
      | inr some ↦ rw some.1 (f x some.0 some.1, each-filter_map P h f xs)
    ]

pub next_below : (S : Tables) (e : Prefix) → AllByRecursion (λ k. k < length (entries S)) (next_numbers S e)
unfolding next_numbers
next_below S e =
    each-filter_map (λ k. k < length (entries S)) (λ p. goal_number S e p.kind) (λ p j h.
    let g = some_goal S e p.kind j h in
    (numbered S g.0 j g.2).0) (chosen S e)

edge_target : (S : Tables) (x : Prefix) (j : ℕ) → Contains (next_numbers S x) j → (y : Prefix) × Next (targets S) x y × (number_in S y ≡ Some j)
unfolding next_numbers targets
edge_target S x j c =
    let r = filter_map_from (λ p. goal_number S x p.kind) (chosen S x) j c in
    let g = some_goal S x r.0.kind j r.2 in
    (g.0, Contains-flat_map (λ p. kind_targets S x p.kind) (chosen S x) r.0 g.0 r.1 (rw (goal_targets S x r.0.kind) (option_in (goal_of S x r.0.kind) g.0 g.1)), g.2)

target_edge : (S : Tables) (x y : Prefix) (j : ℕ) → Next (targets S) x y → number_in S y ≡ Some j → Contains (next_numbers S x) j
unfolding next_numbers targets goal_number
target_edge S x y j c n =
    let r = flat_map_from (λ p. kind_targets S x p.kind) (chosen S x) y c in
    let goal : goal_of S x r.0.kind ≡ Some y = option_from (goal_of S x r.0.kind) y (rw (goal_targets S x r.0.kind) at r.2) in
    filter_map_in (λ p. option_and_then (number_in S) (goal_of S x p.kind)) (chosen S x) r.0 j r.1 (rw goal n)

pub row_is : (S : Tables) (x : Prefix) (i : ℕ) → number_in S x ≡ Some i → next_of (graph_of S) i ≡ next_numbers S x
unfolding graph_of
row_is S x i n =
    let at = numbered S x i n in
    get_or-map (next_numbers S) (entries S) i x [] at.0 ∙ ap (next_numbers S) (at.1 x)

walk_up : (S : Tables) (n : ℕ) (i j : ℕ) (x : Prefix) → number_in S x ≡ Some i → Walk (Edge (graph_of S)) n i j → (y : Prefix) × Walk (Next (targets S)) n x y × (number_in S y ≡ Some j)
walk_up S zero i j x h w = (x, refl, h ∙ ap (λ (k : ℕ). Some k) w)
walk_up S (suc n) i j x h w =
    let edge = edge_target S x w.0 (subst (λ (r : List ℕ). Contains r w.0) (row_is S x i h) w.1) in
    let rest = walk_up S n w.0 j edge.0 edge.2 w.2 in
    (rest.0, (edge.0, edge.1, rest.1), rest.2)

first_is_entry : (S : Tables) (n : ℕ) (x y : Prefix) → is_member same_prefix (entries S) y ≡ true → Walk (Next (targets S)) n x y → is_member same_prefix (entries S) x ≡ true
first_is_entry S zero x y h w = subst (λ z. is_member same_prefix (entries S) z ≡ true) (sym w) h
first_is_entry S (suc n) x y h w = targets_from_entries S x w.0 w.1

pub numbered_entry : (S : Tables) (x : Prefix) (i : ℕ) → number_in S x ≡ Some i → is_member same_prefix (entries S) x ≡ true
numbered_entry S x i h =
    elim (either (is_member same_prefix (entries S) x)) [
      | inl is ↦ is
      | inr isnt ↦ (let at = numbered S x i h in list_any-from_Contains same_prefix_equiv x (entries S) (i, at.0, at.1 x))
    ]

walk_down : (S : Tables) (n : ℕ) (x y : Prefix) (i j : ℕ) → number_in S x ≡ Some i → number_in S y ≡ Some j → Walk (Next (targets S)) n x y → Walk (Edge (graph_of S)) n i j
walk_down S zero x y i j h k w = some_is i j (sym h ∙ (ap (number_in S) w ∙ k))
  where
    some_is : (a b : ℕ) → Some a ≡ Some b → a ≡ b
    some_is a b e = cc
walk_down S (suc n) x y i j h k w =
    let mid = number_of_entry S w.0 (first_is_entry S n w.0 y (numbered_entry S y j k) w.2) in
    (mid.0, subst (λ (r : List ℕ). Contains r mid.0) (sym (row_is S x i h)) (target_edge S x w.0 mid.0 w.1 mid.1), walk_down S n w.0 y mid.0 j mid.1 k w.2)

-- the same node, or a walk in the graph
abbrev pub Led : Tables → ℕ → ℕ → Type 0
Led S i j = (i ≡ j) ⊎ Reaches (Edge (graph_of S)) i j

led_loop : (S : Tables) (e : Prefix) (a t k : ℕ) → number_in S (host a) ≡ Some t → number_in S e ≡ Some k → Led S t k → Looped S e a
led_loop S e a t k h n (inl same) = (0, one_number S (host a) e k (h ∙ ap (λ (i : ℕ). Some i) same) n)
led_loop S e a t k h n (inr r) =
    let up = walk_up S (suc r.0) t k (host a) h r.1 in
    (suc r.0, subst (λ y. Walk (Next (targets S)) (suc r.0) (host a) y) (one_number S up.0 e k up.2 n) up.1)

loop_led : (S : Tables) (e : Prefix) (a t k : ℕ) → number_in S (host a) ≡ Some t → number_in S e ≡ Some k → Looped S e a → Led S t k
loop_led S e a t k h n (zero, w) = inl (walk_down S zero (host a) e t k h n w)
loop_led S e a t k h n (suc m, w) = inr (m, walk_down S (suc m) (host a) e t k h n w)

-- a path is looped exactly where its target is its entry or leads there in the graph
pub looped_by : (S : Tables) (e : Prefix) (a t k : ℕ) (b : Bool) → number_in S (host a) ≡ Some t → number_in S e ≡ Some k → IsTrue b ↔ Led S t k → b ≡ looped S e a
looped_by S e a t k b h n d =
    same_from_decides b (looped S e a) (λ x. led_loop S e a t k h n (d.0 x), λ l. d.1 (loop_led S e a t k h n l)) (looped-Decides S e a)

-- a target that is no entry leads nowhere
pub looped_none : (S : Tables) (e : Prefix) (a k : ℕ) → number_in S (host a) ≡ None → number_in S e ≡ Some k → looped S e a ≡ false
looped_none S e a k h n =
    elim (either (looped S e a)) [
      | inl is ↦ (let w = (looped-Decides S e a).0 is in
          absurd (false≢true (sym (unnumbered S (host a) h) ∙ first_is_entry S w.0 (host a) e (numbered_entry S e k n) w.1)))
      | inr isnt ↦ isnt
    ]
