use Rattle.std.proofs.Common.{◌≡◌, ◌<◌, ℕ, false, length}
use Rattle.std.specs.Prelude.{IsTrue, slice_index_or}
use Rattle.std.specs.List.{AllByRecursion}
use Rattle.fib_resolve.specs.Pairs.{entries}
use Rattle.fib_resolve_pairs.specs.inner.Edges.{has_edge}
use Rattle.fib_resolve_pairs.proofs.loops.starts.Given as goal

abbrev pub invariant-loop-edge : goal.invariant-loop-edge
invariant-loop-edge l = record {
  many : length l.starts.items ≡ length (entries l.known);
  inside : AllByRecursion (λ d. d.0 < length (entries l.known)) l.edge-iterator;
  are : (d : ℕ × ℕ) → IsTrue (has_edge l.on_cycles.keys d) → has_edge l.edge-iterator d ≡ false → IsTrue (slice_index_or l.starts.items d.0 false);
}
