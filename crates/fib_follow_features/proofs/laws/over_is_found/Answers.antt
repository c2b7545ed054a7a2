use Rattle.fib_follow_features.proofs.Tabled.{attached_found, hop_found}
use Rattle.fib_follow_features.proofs.laws.over_is_found.Goals as goal

pub returns-clause-attached : goal.returns-clause-attached
returns-clause-attached c = attached_found

pub returns-clause-hop : goal.returns-clause-hop
returns-clause-hop c = hop_found
