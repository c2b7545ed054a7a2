use Rattle.std.proofs.Common.{◌∙◌}
use Rattle.fib_follow_plan.proofs.Ending.{end_none, end_some}
use Rattle.fib_follow_plan.proofs.ends.is_end.Goals as goal

pub returns-in-Some : goal.returns-in-Some
returns-in-Some c = c.eq.ensures ∙ end_some c.args.end c.in-Some.found c.args.e c.args.kind c.adjacency_of.result c.in-Some.is c.adjacency_of.ensures

pub returns-in-None : goal.returns-in-None
returns-in-None c = end_none c.args.end c.args.e c.args.kind c.adjacency_of.result c.in-None.is c.adjacency_of.ensures
