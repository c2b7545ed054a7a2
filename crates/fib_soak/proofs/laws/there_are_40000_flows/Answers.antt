use Rattle.fib_soak.proofs.Counts.{all_flows}
use Rattle.fib_soak.proofs.laws.there_are_40000_flows.Goals as goal

pub returns : goal.returns
returns c = all_flows
