use Rattle.std.proofs.Common.{refl, subst, ℕ, ◌+◌, ◌∙◌, sym, inl, inr, arith}
use Rattle.fib_plane_view.specs.Promise.{Promise}
use Rattle.fib_plane_view.specs.View.{IsLive}
use Rattle.fib_plane_view.proofs.Frames.{beside_none, beside_then}
use Rattle.fib_ply.proofs.Undropped.{none_self, none_then}
use Rattle.fib_ply.specs.Blank.{IsBlank}
use Rattle.fib_ply.proofs.Blanks.{blank_calm, blank_may, blank_on}
use Rattle.fib_ply.proofs.beginning.begin.Goals as goal

pub put-requires-clause-promise : goal.put-requires-clause-promise
put-requires-clause-promise g c = blank_may (g.P.Objects.promise c.loop-slot.on) (g.P.Objects.view c.loop-slot.on) c.args.object c.loop-slot.slot c.loop-slot.invariant.blank c.loop-slot-test.true (g.met.P.Objects.sound c.loop-slot.on).kinds

pub put-requires-clause-ply : goal.put-requires-clause-ply
put-requires-clause-ply g c = (c.loop-slot.invariant.blank.root, inl refl)

pub put-requires-clause-target : goal.put-requires-clause-target
put-requires-clause-target g c = λ y l. subst (λ (i : ℕ). IsLive (g.P.Objects.view c.loop-slot.on) i) l (inr (inl c.loop-slot.invariant.blank.balance.0))

pub put-requires-clause-spare : goal.put-requires-clause-spare
put-requires-clause-spare g c = λ y l. absurd (c.loop-slot.invariant.blank.empty c.loop-slot.slot (omega arith) c.loop-slot-test.true y l)

pub put-requires-clause-kind : goal.put-requires-clause-kind
put-requires-clause-kind g c = c.loop-slot.invariant.blank.balance

pub put-requires-clause-calm : goal.put-requires-clause-calm
put-requires-clause-calm g c = blank_calm (g.P.Objects.promise c.loop-slot.on) (g.P.Objects.view c.loop-slot.on) c.args.object c.loop-slot.slot c.loop-slot.invariant.blank

pub loop-slot-init : goal.loop-slot-init
loop-slot-init g c = record { blank = c.requires.blank; promise = refl; free = omega arith; beside = beside_none _; none_dropped = none_self _ }

pub loop-slot-preserved : goal.loop-slot-preserved
loop-slot-preserved g c = record {
  blank = subst (λ (p : Promise). IsBlank p (g.P.Objects.view c.put.new.on) c.args.object (c.loop-slot.slot + 1)) (sym c.put.ensures.promise)
      (blank_on (g.P.Objects.promise c.loop-slot.on) (g.P.Objects.view c.loop-slot.on) c.args.object c.loop-slot.slot c.loop-slot.invariant.blank (g.P.Objects.view c.put.new.on) c.loop-slot-test.true c.put.ensures.put c.put.ensures.beside);
  promise = c.put.ensures.promise ∙ c.loop-slot.invariant.promise;
  free = (let i = c.loop-slot.invariant.free in let f = c.put.ensures.put.free in omega (arith, i, f));
  beside = beside_then _ _ _ c.loop-slot.invariant.beside c.put.ensures.beside;
  none_dropped = none_then _ _ _ c.loop-slot.invariant.none_dropped c.put.ensures.none_dropped;
}
