use Rattle.std.proofs.Common.{◌≡◌, ◌≢◌, ℕ, ◌<◌, ◌≤◌, length, map, take, get_or}
use Rattle.std.specs.Prelude.{Contains}
use Rattle.fib_union.specs.Unions.{owner}
use Rattle.fib_union.specs.declared.retired.RetiredEdge.{RetiredEdge}
use Rattle.fib_union.specs.inner.Fields.{IsGrown, CopyRuns, IsNewest, plain}
use Rattle.fib_union.proofs.reach.note_copies.Given as goal

abbrev pub invariant-loop-at : goal.invariant-loop-at
invariant-loop-at l = record {
  nodes : l.search.nodes ≡ l.fn.search.nodes;
  done : l.search.done ≡ l.fn.search.done;
  grown : IsGrown (CopyRuns (map plain l.retired) l.fn.node) l.fn.search.seen l.search.seen;
  below : ℕ;
  within : below ≤ length l.retired;
  newest : IsNewest l.fn.node (take below l.retired) l.at;
  noted : (i : ℕ) (d : RetiredEdge) → below ≤ i → i < length l.retired → owner (get_or l.retired i d).cell ≡ l.fn.node → ((get_or l.retired i d).to ≢ l.to) × Contains l.search.seen (get_or l.retired i d).to;
}

abbrev pub decreases-loop-at : goal.decreases-loop-at
decreases-loop-at l = l.at
