use Rattle.trial_live.specs.Crewed.{SameCrew}
use Rattle.test_live.proofs.restacks.add_routes.Given as goal

abbrev pub invariant-loop-k : goal.invariant-loop-k
invariant-loop-k l = SameCrew l.fn.control.plane.board l.control.plane.board
