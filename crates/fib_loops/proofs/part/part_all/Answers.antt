use Rattle.std.proofs.Common.{arith, ◌-◌, ◌<◌, length, get_or}
use Rattle.fib_loops.specs.inner.Parting.{BackEdge}
use Rattle.fib_loops.proofs.Parted.{rank_read, rank_tells, rank_most, parted_none, parted_skip, all_zero, positive}
use Rattle.fib_loops.proofs.part.part_all.Goals as goal
use Rattle.fib_loops.proofs.part.part_all.Goals.{then-index-eq0+in_ok-grow, else-index-eq0}

pub loop-done-init : goal.loop-done-init
loop-done-init c =
    let e = c.in_ok-parts.ensures.items_if_clones_equal (λ y h. h) in
    parted_none (BackEdge c.args.back.now) (length c.args.back.now) c.args.walk.now.ranks.items c.in_ok-parts.parts.items (omega (arith, c.in_ok-parts.ensures.len, c.in_ok-parts.parts.ok.0))
    (all_zero (length c.args.back.now) c.in_ok-parts.parts.items (rw c.nodes-nodes.ensures at e))
    (rank_most (BackEdge c.args.back.now) (length c.args.back.now) c.args.walk.now.starts.items c.args.walk.now.ranks.items c.args.walk.now.order.items c.requires.ordered)

pub loop-done-preserved : goal.loop-done-preserved
loop-done-preserved c =
    elim c.if-index-eq0.branch [
      | then-index-eq0+in_ok-grow w ↦ rw w.parts-is w.in_ok-grow.ensures
      | else-index-eq0 w ↦ (let n = length c.args.back.now in
          let E = BackEdge c.args.back.now in
          let walk = c.args.walk.now in
          let root = c.index-root.result.now in
          let r = rank_read E n walk.starts.items walk.ranks.items walk.order.items c.requires.ordered (c.nodes-nodes.result - 1 - c.loop-done.done) root (omega arith) c.index-root.ensures in
          let has : 0 < get_or c.loop-done.parts.items root 0 = positive c.loop-done.parts.items root c.index.result.now (omega (arith, r.0, c.loop-done.invariant.parts_len)) c.index.ensures w.if-index-eq0.false in
          rw w.parts-is (parted_skip E n walk.ranks.items c.loop-done.parts.items c.loop-done.done root c.loop-done.invariant (omega (arith, r.1)) has (λ x l e. rank_tells E n walk.starts.items walk.ranks.items walk.order.items c.requires.ordered x root l r.0 e)))
    ]
