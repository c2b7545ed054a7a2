use Rattle.fib_core.proofs.Endings.{walk_ends}
use Rattle.fib_core.proofs.laws.walks_have_an_end.Goals as goal

pub returns : goal.returns
returns c = λ u objects a h some long within calm. walk_ends u objects a h some within calm long
