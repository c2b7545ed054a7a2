use Rattle.trial_live.specs.Crewed.{SameCrew}
use Rattle.trial_live.proofs.restacks.change_each.Given as goal

abbrev pub invariant-loop-line : goal.invariant-loop-line
invariant-loop-line l = SameCrew l.fn.control.plane.board l.control.plane.board
