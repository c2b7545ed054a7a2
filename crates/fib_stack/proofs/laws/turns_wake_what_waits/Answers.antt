use Rattle.fib_stack.proofs.Ordering.{woken_are_queued}
use Rattle.fib_stack.proofs.laws.turns_wake_what_waits.Goals as goal

pub returns : goal.returns
returns c = woken_are_queued
