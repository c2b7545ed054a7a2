use Rattle.fib_soak.proofs.Again.{script_again}
use Rattle.fib_soak.proofs.laws.script_is_read_back.Goals as goal

pub returns : goal.returns
returns c = script_again
