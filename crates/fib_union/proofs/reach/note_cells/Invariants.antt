use Rattle.std.proofs.Common.{◌≡◌, ◌≢◌, ℕ, ◌+◌, ◌*◌, ◌<◌, Some}
use Rattle.std.specs.Prelude.{Contains}
use Rattle.fib_union.specs.Unions.{edge_at}
use Rattle.fib_union.specs.inner.Fields.{IsGrown, CellRuns}
use Rattle.fib_union.proofs.reach.note_cells.Given as goal

abbrev pub invariant-loop-slot : goal.invariant-loop-slot
invariant-loop-slot l = record {
  nodes : l.search.nodes ≡ l.fn.search.nodes;
  done : l.search.done ≡ l.fn.search.done;
  grown : IsGrown (CellRuns l.edges l.node) l.fn.search.seen l.search.seen;
  noted : (s y : ℕ) → s < l.slot → edge_at l.edges (16 * l.node + s) ≡ Some y → (y ≢ l.to) × Contains l.search.seen y;
}
