use Rattle.fib_stack_ledger.proofs.Books.{times_within}
use Rattle.fib_stack.specs.Moments.{parts_of}
use Rattle.fib_stack.proofs.Moving.{moved_joined, room_moved}
use Rattle.fib_stack.proofs.between.so_does_room.Goals as goal

pub returns : goal.returns
returns c = λ S rank p u v t s q plane j room. moved_joined S rank p u v (parts_of t s q) j (room_moved p u v room) plane (λ d r. times_within s.ledger.rows d r)
