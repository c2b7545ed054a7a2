use Rattle.std.proofs.Common.{◌≡◌, ◌-◌, length}
use Rattle.fib_reach.specs.Graphs.{Edge}
use Rattle.fib_reach.proofs.Searched.{Searched}
use Rattle.fib_reach.proofs.reach.reaches.Given as goal

abbrev pub invariant-loop-node : goal.invariant-loop-node
invariant-loop-node l = record {
  nodes : l.search.nodes ≡ length l.rows;
  searched : Searched (Edge l.rows) l.from l.to l.search.seen l.search.done;
}

abbrev pub decreases-loop-node : goal.decreases-loop-node
decreases-loop-node l = length l.rows - l.search.done
