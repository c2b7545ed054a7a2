use Rattle.fib_follow_features.proofs.Tabled.{host_found, host_inside}
use Rattle.fib_follow_features.proofs.laws.host_is_found.Goals as goal

pub returns-clause-all : goal.returns-clause-all
returns-clause-all c = host_found

pub returns-clause-inside : goal.returns-clause-inside
returns-clause-inside c = host_inside
