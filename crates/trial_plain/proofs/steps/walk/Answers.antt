use Rattle.trial_plain.proofs.Seating.{seats_beneath}
use Rattle.trial_plain.proofs.steps.walk.Goals as goal

pub returns-in-Ok-clause-seats : goal.returns-in-Ok-clause-seats
returns-in-Ok-clause-seats c = seats_beneath c.args.control.now c.walk.new.self c.walk.ensures.same
