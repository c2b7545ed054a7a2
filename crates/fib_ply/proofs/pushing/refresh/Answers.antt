use Rattle.std.proofs.Common.{arith, refl, sym, ◌∙◌}
use Rattle.fib_plane_view.proofs.Frames.{beside_none, beside_then}
use Rattle.fib_ply.proofs.Undropped.{none_self, none_then}
use Rattle.fib_ply.proofs.Pushes.{spent_none, spent_then, spent_enough}
use Rattle.fib_ply.proofs.pushing.refresh.Goals as goal

pub loop-pos-init : goal.loop-pos-init
loop-pos-init g c = record { change = λ wants there old n at. (at, spent_none n (g.P.Objects.view c.args.on.now) c.args.from); free = omega arith; promise = refl; beside = beside_none _; none_dropped = none_self _ }

pub push-pos-requires : goal.push-pos-requires
push-pos-requires g c =
    let q = c.requires.ready in
    let h = c.loop-pos.invariant.change q.0 q.1 q.2 q.3 q.4 in
    record { ready = (q.0, q.1, q.2, q.3, h.0, q.5 ∙ sym c.loop-pos.invariant.promise, spent_enough q.3 _ _ _ _ h.1 q.6) }

pub loop-pos-preserved : goal.loop-pos-preserved
loop-pos-preserved g c = record {
  change = λ wants there old n at. (let h = c.loop-pos.invariant.change wants there old n at in let k = c.push-pos.ensures.change wants there old n h.0 in (k.0, spent_then n _ _ _ _ _ _ h.1 k.1));
  free = omega (arith, c.loop-pos.invariant.free, c.push-pos.ensures.free);
  promise = c.push-pos.ensures.promise ∙ c.loop-pos.invariant.promise;
  beside = beside_then _ _ _ c.loop-pos.invariant.beside c.push-pos.ensures.beside;
  none_dropped = none_then _ _ _ c.loop-pos.invariant.none_dropped c.push-pos.ensures.none_dropped;
}

pub returns : goal.returns
returns g c = record {
  promise = c.loop-pos.invariant.promise;
  free = c.loop-pos.invariant.free;
  beside = c.loop-pos.invariant.beside;
  none_dropped = c.loop-pos.invariant.none_dropped;
  change = λ wants there old n at. (let h = c.loop-pos.invariant.change wants there old n at in (c.loop-pos.pos, c.loop-pos-test.false, h.0, h.1));
}
