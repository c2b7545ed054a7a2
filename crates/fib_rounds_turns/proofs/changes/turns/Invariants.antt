use Rattle.fib_control.specs.Controls.{IsBeneath}
use Rattle.fib_rounds_turns.proofs.changes.turns.Given as goal

abbrev pub invariant-loop-turn : goal.invariant-loop-turn
invariant-loop-turn g l = IsBeneath l.fn.control l.control
