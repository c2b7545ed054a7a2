use Rattle.std.proofs.Common.{◌≡◌, ◌↔◌, ℕ, List, length, sym, ◌∙◌, subst}
use Rattle.fib_reach.specs.Walks.{Among}
use Rattle.fib_reach.specs.Graphs.{Edge}
use Rattle.fib_loops.specs.inner.Parting.{BackEdge, IsOrdered, IsParted}
use Rattle.fib_loops.proofs.Joined.{joins_closed, joins_back_closed}
use Rattle.fib_loops.proofs.Ordered.{ordered_from_left, ordered_map, parted_map}
use Rattle.fib_loops.proofs.Marked.{is_marked}
use Rattle.fib_loops.proofs.marks.mark.Goals as goal

pub enter_all-requires-clause-closed : goal.enter_all-requires-clause-closed
enter_all-requires-clause-closed c = joins_closed c.in_ok-graph.graph c.args.nodes c.args.edges.now c.requires c.in_ok-graph.ensures

pub part_all-requires-clause-closed : goal.part_all-requires-clause-closed
part_all-requires-clause-closed c = joins_back_closed c.in_ok-back.back c.args.nodes c.args.edges.now c.requires c.in_ok-back.ensures

pub part_all-requires-clause-ordered : goal.part_all-requires-clause-ordered
part_all-requires-clause-ordered c =
    let g : List (List ℕ) = c.in_ok-graph.graph in
    let b : List (List ℕ) = c.in_ok-back.back in
    let w = c.in_ok-walk.walk in
    let f : (x y : ℕ) → Edge g x y ↔ BackEdge b x y = λ x y. (λ e. (c.in_ok-back.ensures.1 y x).1 ((c.in_ok-graph.ensures.1 x y).0 e), λ e. (c.in_ok-graph.ensures.1 x y).1 ((c.in_ok-back.ensures.1 y x).0 e)) in
    let n : length g ≡ length b = c.in_ok-graph.ensures.0 ∙ sym c.in_ok-back.ensures.0 in
    subst (λ (k : ℕ). IsOrdered (BackEdge b) k w.starts.items w.ranks.items w.order.items) n
    (ordered_map (Edge g) (BackEdge b) (length g) w.starts.items w.ranks.items w.order.items f (ordered_from_left g w c.in_ok-walk.ensures))

pub returns : goal.returns
returns c =
    let g : List (List ℕ) = c.in_ok-graph.graph in
    let b : List (List ℕ) = c.in_ok-back.back in
    let w = c.in_ok-walk.walk in
    let edges : List (ℕ × ℕ) = c.args.edges.now in
    let parts = c.in_ok-parts.parts in
    let f : (x y : ℕ) → Edge g x y ↔ Among edges x y = λ x y. c.in_ok-graph.ensures.1 x y in
    let h : (x y : ℕ) → BackEdge b x y ↔ Among edges x y = λ x y. c.in_ok-back.ensures.1 y x in
    let ordered = subst (λ (k : ℕ). IsOrdered (Among edges) k w.starts.items w.ranks.items w.order.items) c.in_ok-graph.ensures.0 (ordered_map (Edge g) (Among edges) (length g) w.starts.items w.ranks.items w.order.items f (ordered_from_left g w c.in_ok-walk.ensures)) in
    let parted = subst (λ (k : ℕ). IsParted (Among edges) k w.ranks.items parts.items k) c.in_ok-back.ensures.0 (parted_map (BackEdge b) (Among edges) (length b) w.ranks.items parts.items (length b) h c.in_ok-parts.ensures) in
    is_marked c.args.nodes edges c.requires w.starts.items w.ranks.items w.order.items parts.items ordered parted c.in_ok-looped.looped.items (rw c.as_slice.ensures.value at c.in_ok-looped.ensures)
