use Rattle.trial_live.specs.Crewed.{SameCrew}
use Rattle.trial_live.proofs.live.apply_from.Given as goal

abbrev pub invariant-loop-place : goal.invariant-loop-place
invariant-loop-place l = SameCrew l.fn.control.plane.board l.control.plane.board
