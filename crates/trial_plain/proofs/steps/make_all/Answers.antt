use Rattle.std.proofs.Common.{ap}
use Rattle.trial_plain.specs.Seats.{seats_in}
use Rattle.trial_plain.proofs.Seating.{seats_changed}
use Rattle.trial_plain.proofs.steps.make_all.Goals as goal

pub returns-in-Ok : goal.returns-in-Ok
returns-in-Ok c = seats_changed c.args.control.now c.apply_all.new.self _ c.in-Ok.ensures.changed

pub returns-in-Err : goal.returns-in-Err
returns-in-Err c = ap seats_in c.in-Err.ensures.err
