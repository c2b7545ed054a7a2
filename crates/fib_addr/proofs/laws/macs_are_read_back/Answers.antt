use Rattle.fib_addr.proofs.RoundTrip.{mac_again}
use Rattle.fib_addr.proofs.laws.macs_are_read_back.Goals as goal

pub returns : goal.returns
returns c = mac_again
