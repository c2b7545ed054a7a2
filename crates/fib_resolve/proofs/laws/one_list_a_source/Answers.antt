use Rattle.fib_resolve.proofs.OneList.{one_list}
use Rattle.fib_resolve.proofs.laws.one_list_a_source.Goals as goal

pub returns : goal.returns
returns c = one_list
