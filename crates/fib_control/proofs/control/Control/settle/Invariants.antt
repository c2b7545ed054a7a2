use Rattle.std.specs.Prelude.{◌≡◌}
use Rattle.fib_control.specs.Controls.{IsBeneath, Takes}
use Rattle.fib_control.specs.Turning.{HaveTurned}
use Rattle.fib_control.proofs.control.Control.settle.Given as goal

abbrev pub invariant-tries : goal.invariant-tries
invariant-tries g l = record {
  same : IsBeneath l.initial.self l.self;
  setup : l.self.setup ≡ l.fn.self.setup;
  takes : Takes l.fn.self l.self;
  turned : HaveTurned l.fn.self l.self;
}
