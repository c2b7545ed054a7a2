use Rattle.fib_stack.proofs.Clearing.{scan_serves}
use Rattle.fib_stack.proofs.stores.a_scan_keeps_it.Goals as goal

pub returns : goal.returns
returns c = scan_serves
