use Rattle.trial_plain.proofs.Seating.{seats_first}
use Rattle.trial_plain.proofs.Starting.{is_fresh}
use Rattle.trial_plain.proofs.steps.fresh_over.Goals as goal

pub new-requires-2 : goal.new-requires-2
new-requires-2 c = is_fresh c.args.objects c.in_ok-board.board c.requires c.in_ok-board.ensures

pub returns-in-Ok : goal.returns-in-Ok
returns-in-Ok c = seats_first c.args.objects c.in-Ok.control c.in_ok-board.board c.in-Ok.ensures.rest c.in_ok-board.ensures
