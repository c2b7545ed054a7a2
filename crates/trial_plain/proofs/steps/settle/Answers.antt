use Rattle.trial_plain.proofs.Calming.{quiet_after, quiet_settles}
use Rattle.trial_plain.proofs.Seating.{kept_settled, seats_tried}
use Rattle.trial_plain.proofs.steps.settle.Goals as goal

pub returns-clause-seats : goal.returns-clause-seats
returns-clause-seats c = seats_tried c.mark_settled.result c.args.control.now c.mark_settled.new.self c.mark_settled.ensures.settled c.mark_settled.ensures.err

pub returns-clause-kept : goal.returns-clause-kept
returns-clause-kept c = kept_settled c.mark_settled.result c.args.control.now c.mark_settled.new.self c.mark_settled.ensures.settled c.mark_settled.ensures.err

pub returns-clause-quiet : goal.returns-clause-quiet
returns-clause-quiet c = quiet_after c.mark_settled.result c.args.control.now c.mark_settled.new.self c.mark_settled.ensures.settled c.mark_settled.ensures.err

pub returns-clause-settles : goal.returns-clause-settles
returns-clause-settles c = λ q. quiet_settles c.mark_settled.result c.args.control.now c.mark_settled.ensures.busy q
