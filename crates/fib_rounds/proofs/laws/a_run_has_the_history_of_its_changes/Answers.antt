use Rattle.fib_rounds.proofs.Versions.{run_has_history}
use Rattle.fib_rounds.proofs.laws.a_run_has_the_history_of_its_changes.Goals as goal

pub returns : goal.returns
returns c = run_has_history
