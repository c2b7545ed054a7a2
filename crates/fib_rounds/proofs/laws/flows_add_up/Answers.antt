use Rattle.fib_rounds.proofs.Tallies.{flows_add_up}
use Rattle.fib_rounds.proofs.laws.flows_add_up.Goals as goal

pub returns : goal.returns
returns c = flows_add_up
