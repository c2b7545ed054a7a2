-- The order in which the nodes are left, once all are.
use Rattle.std.proofs.Common.{arith, ◌≡◌, ℕ, ◌+◌, ◌-◌, ◌<◌, ◌↔◌, true, eqb, List, [], length, get_or, sym, ◌∙◌, ap, subst}
use Rattle.std.specs.Cmp.{nat_eq_equiv}
use Rattle.std.specs.List.{list_any}
use Rattle.std.proofs.lemmas.Map.Steps.{le-length_from_below}
use Rattle.std.proofs.lemmas.Map.Views.{list_any-from_Contains}
use Rattle.fib_reach.specs.Walks.{Leads}
use Rattle.fib_reach.specs.Graphs.{Edge}
use Rattle.fib_reach.proofs.Places.{any_default}
use Rattle.fib_reach.proofs.Walking.{leads-map}
use Rattle.fib_loops.specs.declared.enter.Entering.{Entering}
use Rattle.fib_loops.specs.declared.enter.Frame.{Frame}
use Rattle.fib_loops.specs.inner.Entering.{IsEntering, HasLeft, nodes_of}
use Rattle.fib_loops.specs.inner.Parting.{IsOrdered, IsParted}

module _ (g : List (List ℕ)) (starts ranks order : List ℕ) (v : IsEntering g starts ranks order []) (all : (x : ℕ) → x < length g → 0 < get_or ranks x 0) where
  at : (x : ℕ) → x < length g → (k : ℕ) × (k < length order) × (get_or order k 0 ≡ x) × (get_or ranks x 0 ≡ k + 1)
  at x l =
      let is : get_or ranks x 0 ≡ (get_or ranks x 0 - 1) + 1 = omega (arith, all x l) in
      let r = v.ranked x (get_or ranks x 0 - 1) is in
      (get_or ranks x 0 - 1, r.0, r.1, is)

  has : (q : ℕ) → q < length g → list_any (eqb q) order ≡ true
  has q l =
      let a = at q l in
      list_any-from_Contains nat_eq_equiv q order (a.0, a.1, any_default order a.0 q 0 a.1 ∙ a.2)

  full : length order ≡ length g
  full = let least = le-length_from_below order (length g) has in let none : List ℕ = [] in omega (arith, least, v.sized)

  pub is_ordered : IsOrdered (Edge g) (length g) starts ranks order
  is_ordered = record {
    order_len = full;
    node = λ k l. v.node_left k (omega (arith, l, full));
    rank_at = λ k l. v.rank_left k (omega (arith, l, full));
    placed = λ x l. let a = at x l in (a.0, omega (arith, a.1, full), a.2);
    early = λ x l. let a = at x l in omega (arith, v.early a.0 a.1, a.3, ap (λ (q : ℕ). get_or starts q 0) a.2);
    edges = λ x y l e. let a = at x l in omega (arith, a.3, (v.edges_left a.0 y a.1 (subst (λ (q : ℕ). Edge g q y) (sym a.2) e)).1);
    leads = λ x y x_in y_in le s.
        let a = at x x_in in
        let b = at y y_in in
        let l = v.leads_left a.0 b.0 (omega (arith, le, a.3, b.3)) b.1 (omega (arith, s, a.3, ap (λ (q : ℕ). get_or starts q 0) b.2)) in
        subst (λ (q : ℕ). Leads (Edge g) q x) b.2 (subst (λ (q : ℕ). Leads (Edge g) (get_or order b.0 0) q) a.2 l);
    nested = λ x y x_in y_in le s.
        let a = at x x_in in
        let b = at y y_in in
        let l = v.starts_left a.0 b.0 (omega (arith, le, a.3, b.3)) b.1 (omega (arith, s, a.3, ap (λ (q : ℕ). get_or starts q 0) b.2)) in
        omega (arith, l, ap (λ (q : ℕ). get_or starts q 0) a.2, ap (λ (q : ℕ). get_or starts q 0) b.2);
  }

pub ordered_from_left : (g : List (List ℕ)) (w : Entering) → HasLeft g w → IsOrdered (Edge g) (length g) w.starts.items w.ranks.items w.order.items
ordered_from_left g w h =
    is_ordered g w.starts.items w.ranks.items w.order.items (subst (λ (l : List Frame). IsEntering g w.starts.items w.ranks.items w.order.items (nodes_of l)) h.1 h.0.0) h.2

-- the same edges under another name
pub ordered_map : (E F : ℕ → ℕ → Type 0) (n : ℕ) (starts ranks order : List ℕ) → ((x y : ℕ) → E x y ↔ F x y) → IsOrdered E n starts ranks order → IsOrdered F n starts ranks order
ordered_map E F n starts ranks order f o = record {
  order_len = o.order_len;
  node = o.node;
  rank_at = o.rank_at;
  placed = o.placed;
  early = o.early;
  edges = λ x y l e. o.edges x y l ((f x y).1 e);
  leads = λ x y x_in y_in le s. leads-map E F (λ a b. (f a b).0) y x (o.leads x y x_in y_in le s);
  nested = o.nested;
}

pub parted_map : (E F : ℕ → ℕ → Type 0) (n : ℕ) (ranks parts : List ℕ) (done : ℕ) → ((x y : ℕ) → E x y ↔ F x y) → IsParted E n ranks parts done → IsParted F n ranks parts done
parted_map E F n ranks parts done f v = record {
  parts_len = v.parts_len;
  high = v.high;
  numbered = v.numbered;
  closed = λ x y e h. v.closed x y ((f x y).1 e) h;
  together = λ x y h e. leads-map E F (λ a b. (f a b).0) x y (v.together x y h e);
}
