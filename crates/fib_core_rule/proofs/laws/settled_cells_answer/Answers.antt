use Rattle.fib_core_rule.proofs.Tells.{settled_answers}
use Rattle.fib_core_rule.proofs.laws.settled_cells_answer.Goals as goal

pub returns : goal.returns
returns c = λ objects seat k words views d tables s mine now held. settled_answers objects words views s seat d mine k tables now held
