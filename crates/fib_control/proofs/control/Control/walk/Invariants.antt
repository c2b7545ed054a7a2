use Rattle.std.proofs.Common.{◌≡◌, true, ◌-◌, length}
use Rattle.fib_addr.specs.Prefixes.{Prefix}
use Rattle.fib_stack_waking.specs.Waking.{is_among}
use Rattle.fib_control.specs.Controls.{IsBeneath, Takes, is_queued}
use Rattle.fib_control.specs.inner.Underway.{AreTurning}
use Rattle.fib_control.proofs.Walked.{may_turn}
use Rattle.fib_control.proofs.control.Control.walk.Given as goal

abbrev pub invariant-turns : goal.invariant-turns
invariant-turns g l = record {
  same : IsBeneath l.initial.self l.self;
  takes : Takes l.initial.self l.self;
  turning : AreTurning l.initial.self l.self;
  waiting : (d : Prefix) → is_queued l.self d ≡ true → is_among (may_turn l.initial.self) d ≡ true;
  taken : (d : Prefix) → is_among l.self.done d ≡ true → is_among (may_turn l.initial.self) d ≡ true;
}

abbrev pub decreases-turns : goal.decreases-turns
decreases-turns g l = length (may_turn l.initial.self) - length l.self.done
