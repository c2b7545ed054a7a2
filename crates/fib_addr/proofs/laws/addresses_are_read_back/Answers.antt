use Rattle.fib_addr.proofs.RoundTrip.{address_again}
use Rattle.fib_addr.proofs.laws.addresses_are_read_back.Goals as goal

pub returns : goal.returns
returns c = address_again
