use Rattle.std.proofs.Common.{arith, refl, ◌<◌, length}
use Rattle.fib_reach.proofs.Visits.{done_few, seen_below, read_at}
use Rattle.fib_reach.proofs.visit.Search.next.Goals as goal

pub returns-then-self-len-clause-next : goal.returns-then-self-len-clause-next
returns-then-self-len-clause-next c =
    let lt : c.self.inside.done < length c.self.inside.seen.items = omega (arith, c.self.inside.seen.ok.0) in
    rw (← c.self.view_is) (record {
      here = lt;
      node_is = read_at c.self.inside.seen.items c.self.inside.done c.index-node.result.now lt c.index-node.ensures;
      done = refl;
      node_in = seen_below c.self.invariant c.index-node.result.now lt c.index-node.ensures;
      done_in = done_few c.self.invariant lt;
    })
