use Rattle.fib_addr.proofs.RoundTrip.{prefix_again}
use Rattle.fib_addr.proofs.laws.prefixes_are_read_back.Goals as goal

pub returns : goal.returns
returns c = prefix_again
