use Rattle.std.proofs.Common.{refl, ◌∙◌, arith}
use Rattle.fib_plane_view.proofs.Frames.{beside_none, beside_then}
use Rattle.fib_ply.proofs.Undropped.{none_self, none_then}
use Rattle.fib_ply.proofs.Sprouts.{frame_none, frame_then}
use Rattle.fib_ply.proofs.Grown.{bare_all, bare_more, bare_none, found_at, grows_none, grows_more, ready_more, grows_all}
use Rattle.fib_ply.proofs.growing.grow.Goals as goal

pub loop-at-init : goal.loop-at-init
loop-at-init g c = record {
  ready = found_at _ _ c.args.addr _ _ _ c.requires.ready c.find-at.ensures;
  grows = grows_none _ c.args.addr c.args.depth _ _ _ c.find-at.ensures;
  room = (c.requires.room.0, omega (arith, c.requires.room.1), omega (arith, c.requires.room.2), omega arith, omega arith);
  free = omega arith;
  bare = bare_none _ c.args.addr _;
  within = λ lt. absurd (omega (arith, lt));
  frame = frame_none _;
  promise = refl;
  beside = beside_none _;
  none_dropped = none_self _;
}

pub loop-at-preserved : goal.loop-at-preserved
loop-at-preserved g c =
    let i = c.loop-at.invariant in
    record {
      ready = ready_more _ _ _ _ c.args.addr _ _ _ _ _ _ c.sprout-at.ensures.promise i.ready c.sprout-at.ensures.sprouted;
      grows = grows_more _ _ _ c.args.addr c.args.depth _ _ _ _ _ _ _ c.loop-at-test.true c.sprout-at.ensures.deeper i.grows c.sprout-at.ensures.sprouted;
      room = (c.requires.room.0, omega (arith, i.room.1, c.sprout-at.ensures.free, c.sprout-at.ensures.deeper), omega (arith, i.room.2, c.sprout-at.ensures.spare, c.sprout-at.ensures.deeper), omega (arith, i.room.3, c.sprout-at.ensures.deeper), omega (arith, i.room.3, c.loop-at-test.true));
      free = omega (arith, i.free, c.sprout-at.ensures.free);
      bare = rw c.sprout-at.ensures.deeper (bare_more _ _ c.args.addr c.args.depth _ _ _ _ i.grows i.bare);
      within = λ lt. omega (arith, c.loop-at-test.true, c.sprout-at.ensures.deeper);
      frame = frame_then _ _ _ i.frame c.sprout-at.ensures.frame;
      promise = c.sprout-at.ensures.promise ∙ i.promise;
      beside = beside_then _ _ _ i.beside c.sprout-at.ensures.beside;
      none_dropped = none_then _ _ _ i.none_dropped c.sprout-at.ensures.none_dropped;
    }

pub returns : goal.returns
returns g c = let i = c.loop-at.invariant in record { few = i.room.4; free = i.free; bare = bare_all _ c.args.addr c.args.depth _ _ c.loop-at-test.false i.within i.bare; frame = i.frame; promise = i.promise; beside = i.beside; none_dropped = i.none_dropped; grows = grows_all _ _ c.args.addr c.args.depth _ _ _ _ c.loop-at-test.false i.grows }
