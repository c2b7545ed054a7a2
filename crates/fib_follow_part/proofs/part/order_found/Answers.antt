use Rattle.std.proofs.Common.{length, subst, sym}
use Rattle.fib_loops.specs.Loops.{AreEdges}
use Rattle.fib_follow_part.specs.inner.Searched.{FallsAlong, is_left}
use Rattle.fib_follow_part.proofs.Numbering.{filter_edges}
use Rattle.fib_follow_part.proofs.part.order_found.Goals as goal

pub numbers-requires-clause-edges : goal.numbers-requires-clause-edges
numbers-requires-clause-edges c =
    let members = c.args.members.now in
    subst (λ es. AreEdges (length members) es) (sym c.as_slice.ensures.value)
    (filter_edges (length members) (is_left members c.in_ok-loops.loops.keys) c.args.edges.now c.in_ok-left.left.items c.in_ok-left.ensures c.requires.edges)

pub returns : goal.returns
returns c = record {
  loops = c.in_ok-loops.ensures;
  left = c.in_ok-left.ensures;
  each = c.in_ok-numbers.ensures.len;
  below = c.in_ok-numbers.ensures.below;
  falls = subst (λ l. FallsAlong l c.in_ok-numbers.numbers.items) c.as_slice.ensures.value c.in_ok-numbers.ensures.falls;
}
