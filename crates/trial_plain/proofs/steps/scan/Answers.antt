use Rattle.std.proofs.Common.{◌∙◌, ap, length}
use Rattle.fib_stack.specs.Joined.{Parts}
use Rattle.trial_plain.proofs.Seating.{kept_beneath, seats_beneath}
use Rattle.trial_plain.proofs.steps.scan.Goals as goal

pub returns-clause-seats : goal.returns-clause-seats
returns-clause-seats c = seats_beneath c.args.control.now c.scan.new.self c.scan.ensures.same

pub returns-clause-kept : goal.returns-clause-kept
returns-clause-kept c = kept_beneath c.args.control.now c.scan.new.self c.scan.ensures.same (ap (λ (s : Parts). s.queue) c.scan.ensures.parts.0)

pub returns-clause-alone : goal.returns-clause-alone
returns-clause-alone c = λ home. (let none = c.scan.ensures.alone home in (c.scan.ensures.left ∙ ap length none, none))
