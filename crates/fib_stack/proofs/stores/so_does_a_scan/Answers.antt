use Rattle.fib_stack.proofs.Leaving.{scan_quiet}
use Rattle.fib_stack.proofs.stores.so_does_a_scan.Goals as goal

pub returns : goal.returns
returns c = λ look u v left plane scan. scan_quiet u v left plane scan look
