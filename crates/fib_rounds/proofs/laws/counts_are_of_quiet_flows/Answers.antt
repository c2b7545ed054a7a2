use Rattle.fib_rounds.proofs.Tallies.{counts_are_of_quiet_flows}
use Rattle.fib_rounds.proofs.laws.counts_are_of_quiet_flows.Goals as goal

pub returns : goal.returns
returns c = counts_are_of_quiet_flows
