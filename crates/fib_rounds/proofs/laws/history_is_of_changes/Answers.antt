use Rattle.fib_rounds.proofs.Versions.{history_is_of_changes}
use Rattle.fib_rounds.proofs.laws.history_is_of_changes.Goals as goal

pub returns : goal.returns
returns c = history_is_of_changes
