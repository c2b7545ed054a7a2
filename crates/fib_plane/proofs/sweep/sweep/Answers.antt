use Rattle.std.proofs.Common.{arith, List, ℕ, subst}
use Rattle.fib_plane.specs.inner.Joined.{AreDying}
use Rattle.fib_plane.proofs.Sweeping.{front_dying, nearer, swept_allows, swept_size, swept_then}
use Rattle.fib_plane.proofs.sweep.sweep.Goals as goal

pub clear-requires-clause-dying : goal.clear-requires-clause-dying
clear-requires-clause-dying g c = front_dying c.loop-object.pool c.pop.new.self.items c.in-Some.object (subst (λ (l : List ℕ). AreDying c.loop-object.pool l) c.in-Some.ensures.items c.loop-object.invariant.dying)

pub loop-object-smaller : goal.loop-object-smaller
loop-object-smaller g c =
    let e = c.clear.ensures in
    nearer c.loop-object.pool c.clear.new.pool (swept_size c.loop-object.board c.clear.new.board c.loop-object.union c.clear.new.union c.loop-object.pool c.clear.new.pool e.swept c.loop-object.invariant.joined e.joined) e.free

pub loop-object-preserved : goal.loop-object-preserved
loop-object-preserved g c =
    let b = c.args.board.now in
    let i = c.loop-object.invariant in
    let e = c.clear.ensures in
    let m = c.loop-object.board in
    let n = c.clear.new.board in
    let xs = c.loop-object.pool in
    let ys = c.clear.new.pool in
    let size = swept_size m n c.loop-object.union c.clear.new.union xs ys e.swept i.joined e.joined in
    let popped = c.in-Some.ensures.capacity in
    record {
      joined = e.joined;
      dying = e.dying;
      allowed = swept_allows m n xs ys e.swept i.allowed;
      room = omega (arith, size, i.room, e.room, popped);
      swept = swept_then b m n c.args.pool.now xs ys i.swept e.swept;
      serves = e.serves;
      spare = omega (arith, i.spare, e.spare);
      kept = omega (arith, i.kept, e.room, popped);
    }
