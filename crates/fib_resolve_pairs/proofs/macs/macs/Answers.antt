use Rattle.std.proofs.Common.{arith, ◌-◌, drop}
use Rattle.std.specs.HashMap.{get}
use Rattle.fib_resolve.specs.Sizes.{same_adjacency}
use Rattle.fib_resolve_pairs.proofs.Backward.{front}
use Rattle.fib_resolve_pairs.proofs.Placing.{macs_more}
use Rattle.fib_resolve_pairs.proofs.macs.macs.Goals as goal

pub loop-place-preserved : goal.loop-place-preserved
loop-place-preserved c =
    let ns = c.args.tables.now.neighbors in
    let i = c.loop-place.place in
    let n = c.index-n.result.now in
    let at = front ns i n (omega (arith, c.loop-place-test.true)) (omega (arith, c.loop-place.auto.place)) c.index-n.ensures in
    macs_more (get same_adjacency c.insert.new.self) (get same_adjacency c.loop-place.macs) n (drop i ns) (drop (i - 1) ns) at c.in_ok-insert.ensures.updates.0 c.loop-place.invariant
