use Rattle.fib_stack_ledger.proofs.Books.{times_within}
use Rattle.fib_stack.specs.Moments.{parts_of}
use Rattle.fib_stack.proofs.Moving.{moved_joined, scan_moved}
use Rattle.fib_stack.proofs.between.a_scan_keeps_what_stands.Goals as goal

pub returns : goal.returns
returns c = λ S rank p u v t s q left plane j scan. moved_joined S rank p u v (parts_of t s q) j (scan_moved p u v left plane scan) plane (λ d r. times_within s.ledger.rows d r)
