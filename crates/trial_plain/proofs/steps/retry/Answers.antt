use Rattle.trial_plain.proofs.Seating.{kept_beneath, seats_beneath}
use Rattle.trial_plain.proofs.steps.retry.Goals as goal

pub returns-clause-seats : goal.returns-clause-seats
returns-clause-seats c = seats_beneath c.args.control.now c.retry.new.self c.retry.ensures.same

pub returns-clause-kept : goal.returns-clause-kept
returns-clause-kept c = kept_beneath c.args.control.now c.retry.new.self c.retry.ensures.same c.retry.ensures.parts.2

pub returns-clause-calm : goal.returns-clause-calm
returns-clause-calm c = c.retry.ensures.calm
