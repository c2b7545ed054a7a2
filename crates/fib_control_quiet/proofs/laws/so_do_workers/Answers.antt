use Rattle.fib_control_quiet.proofs.Workers.{same_versions}
use Rattle.fib_control_quiet.proofs.laws.so_do_workers.Goals as goal

pub returns : goal.returns
returns c = same_versions
