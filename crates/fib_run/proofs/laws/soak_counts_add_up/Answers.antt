use Rattle.fib_run.proofs.Soaking.{soak_counts_add_up}
use Rattle.fib_run.proofs.laws.soak_counts_add_up.Goals as goal

pub returns : goal.returns
returns c = soak_counts_add_up
