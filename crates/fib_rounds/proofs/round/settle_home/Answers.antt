use Rattle.fib_rounds.proofs.Forwarding.{alone_again}
use Rattle.fib_rounds.proofs.round.settle_home.Goals as goal

pub settle_alone-requires : goal.settle_alone-requires
settle_alone-requires c = alone_again c.args.control.now.plane.board c.requires
