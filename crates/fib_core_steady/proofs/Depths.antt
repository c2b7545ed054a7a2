-- By its names a ply's edges lie at most seven deep, also with one edge more: what a store of such an edge is to show.
use Rattle.std.proofs.Common.{◌≡◌, ◌≤◌, ◌+◌, ◌%◌, ℕ, zero, suc, List, sym, ap, ◌∙◌, subst, arith}
use Rattle.fib_reach.specs.Walks.{Walk}
use Rattle.fib_resolve.specs.declared.types.Tables.{Tables}
use Rattle.fib_union.specs.Unions.{owner}
use Rattle.fib_core.specs.Union.{Union, PlyEdge}
use Rattle.fib_core_steady.specs.Names.{Names, IsChild}
use Rattle.fib_core_steady.specs.Promise.{KeepsPlies}
use Rattle.fib_core_steady.proofs.Edges.{child_of}

module _ (J : List Tables) (n : Names) (u : Union) (ok : KeepsPlies J n u) where
  edge_depth : (x y : ℕ) → PlyEdge u x y → (n.depth y ≡ n.depth x + 1) × (n.depth y ≤ 7)
  edge_depth x y (k, w, from, is, g) = let child = child_of n u ok.ways k w y g is in (child.0 ∙ ap (λ i. n.depth i + 1) from, child.2)

  walk_depth : (m x y : ℕ) → n.depth x ≤ 7 → Walk (PlyEdge u) m x y → (n.depth y ≡ n.depth x + m) × (n.depth y ≤ 7)
  walk_depth zero x y low walk = let none : n.depth x ≡ n.depth x + 0 = omega arith in (ap n.depth (sym walk) ∙ none, subst (λ i. n.depth i ≤ 7) walk low)
  walk_depth (suc m) x y low walk =
      let first = edge_depth x walk.0 walk.1 in
      let rest = walk_depth m walk.0 y first.1 walk.2 in
      let a : n.depth walk.0 ≡ n.depth x + 1 = first.0 in
      let b : n.depth y ≡ n.depth walk.0 + m = rest.0 in
      (omega arith, rest.1)

  pub shallow_by_names : (k c a b y : ℕ) → IsChild n (owner k) (k % 16) c → Walk (PlyEdge u) a 0 (owner k) → Walk (PlyEdge u) b c y → a + 1 + b ≤ 7
  shallow_by_names k c a b y child above below =
      let root : n.depth 0 ≡ 0 = ok.ways.root.0 in
      let low : n.depth 0 ≤ 7 = omega arith in
      let to : n.depth (owner k) ≡ n.depth 0 + a = (walk_depth a 0 (owner k) low above).0 in
      let next : n.depth c ≡ n.depth (owner k) + 1 = child.0 in
      let far = walk_depth b c y child.2 below in
      let end : n.depth y ≡ n.depth c + b = far.0 in
      let most : n.depth y ≤ 7 = far.1 in
      omega arith
