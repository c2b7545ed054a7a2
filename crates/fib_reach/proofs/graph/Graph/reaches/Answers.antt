use Rattle.std.proofs.Common.{ℕ, List, subst, sym}
use Rattle.fib_reach.specs.Graphs.{IsClosed}
use Rattle.fib_reach.proofs.graph.Graph.reaches.Goals as goal

pub reaches-requires-clause-closed : goal.reaches-requires-clause-closed
reaches-requires-clause-closed c =
    subst (λ (g : List (List ℕ)). IsClosed g) (sym c.as_slice.ensures.value) c.self.invariant.closed
