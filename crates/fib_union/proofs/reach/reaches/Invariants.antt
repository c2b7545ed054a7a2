use Rattle.std.proofs.Common.{◌≡◌, ◌-◌, length, map}
use Rattle.fib_union.specs.inner.Fields.{Runs, plain}
use Rattle.fib_reach.proofs.Searched.{Searched}
use Rattle.fib_union.proofs.reach.reaches.Given as goal

abbrev pub invariant-loop-node : goal.invariant-loop-node
invariant-loop-node l = record {
  nodes : l.search.nodes ≡ length l.newest;
  searched : Searched (Runs l.edges (map plain l.retired)) l.from l.to l.search.seen l.search.done;
}

abbrev pub decreases-loop-node : goal.decreases-loop-node
decreases-loop-node l = length l.newest - l.search.done
