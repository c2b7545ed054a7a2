use Rattle.fib_resolve.proofs.Covering.{attached_by_chosen}
use Rattle.fib_resolve.proofs.laws.attached_by_the_cover.Goals as goal

pub returns : goal.returns
returns c = attached_by_chosen
