use Rattle.std.proofs.Common.{false}
use Rattle.fib_follow_part.proofs.Parting.{made_part}
use Rattle.fib_follow_part.proofs.part.Part.of.Goals as goal

pub returns : goal.returns
returns c =
    let found = c.in_ok-found.found in
    let made = c.in_ok-part.ensures in
    made_part c.args.view.now false found.members found.is_apart c.in_ok-found.ensures c.in_ok-part.part
    made.members made.apart made.ordered made.out
