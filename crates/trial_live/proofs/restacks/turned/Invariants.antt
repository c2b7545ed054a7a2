use Rattle.trial_live.specs.Crewed.{SameCrew}
use Rattle.trial_live.proofs.restacks.turned.Given as goal

abbrev pub invariant-loop-count : goal.invariant-loop-count
invariant-loop-count l = SameCrew l.fn.control.plane.board l.control.plane.board
