use Rattle.test_control.proofs.Rests.{is_fresh, rested}
use Rattle.test_control.proofs.control.fresh.Goals as goal

pub new-requires-2 : goal.new-requires-2
new-requires-2 c = is_fresh c.in_ok-board.board c.in_ok-board.ensures

pub returns-in-Ok : goal.returns-in-Ok
returns-in-Ok c = rested c.in-Ok.control.plane.board c.in_ok-board.board c.in-Ok.ensures.rest c.in_ok-board.ensures
