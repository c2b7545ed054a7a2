use Rattle.std.proofs.Common.{◌≡◌, ◌≢◌, ℕ, ◌<◌, get_or}
use Rattle.std.specs.Prelude.{Contains}
use Rattle.fib_reach.specs.inner.Visits.{GrowsFrom}
use Rattle.fib_reach.proofs.reach.note_all.Given as goal

abbrev pub invariant-loop-target : goal.invariant-loop-target
invariant-loop-target l = record {
  nodes : l.search.nodes ≡ l.fn.search.nodes;
  done : l.search.done ≡ l.fn.search.done;
  grown : GrowsFrom l.fn.search.seen l.targets l.search.seen;
  passed : (k : ℕ) → k < l.target-index → (get_or l.targets k 0 ≢ l.to) × Contains l.search.seen (get_or l.targets k 0);
}
