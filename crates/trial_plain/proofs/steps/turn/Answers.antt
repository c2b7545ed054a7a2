use Rattle.trial_plain.proofs.Seating.{seats_beneath}
use Rattle.trial_plain.proofs.steps.turn.Goals as goal

pub returns-in-Ok : goal.returns-in-Ok
returns-in-Ok c = seats_beneath c.args.control.now c.turn.new.self c.turn.ensures.same
