use Rattle.std.proofs.Common.{arith, ◌∙◌}
use Rattle.fib_core_board.proofs.Serving.{serves_held}
use Rattle.fib_plane.proofs.Sweeping.{swept_then, swept_allows, swept_size, back_swept, back_joined, back_dying, more_drop}
use Rattle.fib_plane.specs.Planes.{IsHeld}
use Rattle.fib_plane.proofs.Holding.{held_stays}
use Rattle.fib_plane.proofs.sweep.clear.Goals as goal

pub loop-slot-preserved : goal.loop-slot-preserved
loop-slot-preserved g c =
    let b = c.args.board.now in
    let i = c.loop-slot.invariant in
    let e = c.clear_cell.ensures in
    let m = c.loop-slot.board in
    let n = c.clear_cell.new.board in
    let size = swept_size m n c.loop-slot.union c.clear_cell.new.union c.loop-slot.pool c.clear_cell.new.pool e.swept i.joined e.joined in
    record {
      joined = e.joined;
      dying = e.dying;
      allowed = swept_allows m n c.loop-slot.pool c.clear_cell.new.pool e.swept i.allowed;
      room = omega (arith, size, i.room, e.room);
      swept = swept_then b m n c.args.pool.now c.loop-slot.pool c.clear_cell.new.pool i.swept e.swept;
      serves = e.serves;
      spare = omega (arith, i.spare, e.spare);
      kept = omega (arith, i.kept, e.room);
      free = e.free ∙ i.free;
      cleared = more_drop m n c.args.object c.loop-slot.slot i.cleared e.cleared e.others;
    }

pub put_back-requires : goal.put_back-requires
put_back-requires g c = c.loop-slot.invariant.dying.there 0 (omega arith)

pub returns-clause-joined : goal.returns-clause-joined
returns-clause-joined g c =
    let i = c.loop-slot.invariant in
    rw c.put_back.ensures.given (back_joined c.loop-slot.board c.loop-slot.union c.loop-slot.pool i.joined c.args.object (i.dying.there 0 (omega arith)) (λ s lt. i.cleared s (omega (arith, lt, c.loop-slot-test.false))))

pub returns-clause-dying : goal.returns-clause-dying
returns-clause-dying g c =
    let i = c.loop-slot.invariant in
    rw c.put_back.ensures.given (back_dying c.loop-slot.board c.loop-slot.union c.loop-slot.pool i.joined c.args.object (i.dying.there 0 (omega arith)) c.loop-slot.dying.items i.dying)

pub returns-clause-swept : goal.returns-clause-swept
returns-clause-swept g c =
    let i = c.loop-slot.invariant in
    let b = c.args.board.now in
    let m = c.loop-slot.board in
    rw c.put_back.ensures.given (swept_then b m m c.args.pool.now c.loop-slot.pool _ i.swept (back_swept m c.loop-slot.union c.loop-slot.pool i.joined c.args.object (i.dying.there 0 (omega arith))))

pub returns-clause-serves : goal.returns-clause-serves
returns-clause-serves g c =
    let i = c.loop-slot.invariant in
    let m = c.loop-slot.board in
    rw c.put_back.ensures.given (serves_held m (IsHeld m c.loop-slot.pool) (IsHeld m _) (held_stays m m c.loop-slot.pool _ (back_swept m c.loop-slot.union c.loop-slot.pool i.joined c.args.object (i.dying.there 0 (omega arith)))) i.serves)
