use Rattle.trial_plain.proofs.Seating.{seats_alone}
use Rattle.trial_plain.proofs.alone.settle_alone.Goals as goal

pub settle_alone-requires : goal.settle_alone-requires
settle_alone-requires c = c.requires

pub returns-in-Ok-clause-seats : goal.returns-in-Ok-clause-seats
returns-in-Ok-clause-seats c = seats_alone c.args.control.now c.settle_alone.new.self c.in-Ok.ensures.board

pub returns-in-Err-clause-seats : goal.returns-in-Err-clause-seats
returns-in-Err-clause-seats c = seats_alone c.args.control.now c.settle_alone.new.self c.in-Err.ensures.board
