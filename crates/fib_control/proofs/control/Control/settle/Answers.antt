use Rattle.std.proofs.Common.{◌∙◌, ap, inl, inr, refl, subst, sym}
use Rattle.fib_control.specs.Controls.{Control, IsBeneath, Takes}
use Rattle.fib_control.proofs.Taking.{takes_settled, takes_then, tried}
use Rattle.fib_control.proofs.Turning.{turned_on}
use Rattle.fib_control.proofs.Walked.{beneath_then}
use Rattle.fib_control.proofs.control.Control.settle.Goals as goal

pub tries-init : goal.tries-init
tries-init g c = record {
  same = record { setup = refl; entries = refl; promise = refl };
  setup = c.walk.ensures.same.setup;
  takes = c.walk.ensures.takes;
  turned = c.walk.ensures.turned;
}

pub returns-in-Ok-clause-turned : goal.returns-in-Ok-clause-turned
returns-in-Ok-clause-turned g c =
    turned_on c.args.self.now c.tries.self c.scan.new.self c.retry.new.self c.mark_settled.new.self c.tries.invariant.turned c.scan.ensures.parts c.retry.ensures.parts (inr c.in-Ok.ensures.settled)

pub tries-preserved : goal.tries-preserved
tries-preserved g c = record {
  setup = ap (λ (x : Control). x.setup) c.in_default.ensures.err ∙ c.retry.ensures.same.setup ∙ c.scan.ensures.same.setup ∙ c.tries.invariant.setup;
  takes = subst (λ (x : Control). Takes c.args.self.now x) (sym c.in_default.ensures.err) (tried c.args.self.now c.tries.self c.scan.new.self c.retry.new.self c.tries.invariant.setup c.scan.ensures.same.setup c.tries.invariant.takes c.scan.ensures.takes c.retry.ensures.takes);
  same = subst (λ (x : Control). IsBeneath c.walk.new.self x) (sym c.in_default.ensures.err) (beneath_then c.walk.new.self c.scan.new.self c.retry.new.self (beneath_then c.walk.new.self c.tries.self c.scan.new.self c.tries.invariant.same c.scan.ensures.same) c.retry.ensures.same);
  turned = turned_on c.args.self.now c.tries.self c.scan.new.self c.retry.new.self c.mark_settled.new.self c.tries.invariant.turned c.scan.ensures.parts c.retry.ensures.parts (inl c.in_default.ensures.err);
}

pub returns-in-Ok-clause-takes : goal.returns-in-Ok-clause-takes
returns-in-Ok-clause-takes g c =
    takes_then c.args.self.now c.retry.new.self c.mark_settled.new.self (c.retry.ensures.same.setup ∙ c.scan.ensures.same.setup ∙ c.tries.invariant.setup)
    (tried c.args.self.now c.tries.self c.scan.new.self c.retry.new.self c.tries.invariant.setup c.scan.ensures.same.setup c.tries.invariant.takes c.scan.ensures.takes c.retry.ensures.takes)
    (takes_settled c.retry.new.self c.mark_settled.new.self c.in-Ok.ensures.settled)
