use Rattle.fib_resolve.proofs.Answering.{forwards_is_usable}
use Rattle.fib_resolve.proofs.laws.forwarding_is_a_usable_path.Goals as goal

pub returns : goal.returns
returns c = forwards_is_usable
