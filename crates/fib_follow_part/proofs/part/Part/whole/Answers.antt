use Rattle.std.proofs.Common.{true}
use Rattle.fib_follow_part.proofs.Parting.{made_part, none_leaves}
use Rattle.fib_follow_part.proofs.part.Part.whole.Goals as goal

pub returns-clause-part : goal.returns-clause-part
returns-clause-part c =
    let found = c.in_ok-found.found in
    let made = c.in_ok-part.ensures in
    made_part c.args.view.now true found.members found.is_apart c.in_ok-found.ensures c.in_ok-part.part
    made.members made.apart made.ordered made.out

pub returns-clause-whole : goal.returns-clause-whole
returns-clause-whole c =
    let found = c.in_ok-found.found in
    none_leaves c.args.view.now found.members found.is_apart c.in_ok-found.ensures c.in_ok-part.part.out c.in_ok-part.ensures.out
