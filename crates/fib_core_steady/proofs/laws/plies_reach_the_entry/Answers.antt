use Rattle.fib_core_steady.proofs.Reaches.{plies_reach}
use Rattle.fib_core_steady.proofs.laws.plies_reach_the_entry.Goals as goal

pub returns : goal.returns
returns c = λ J n u a h x e ok fits alike walked below. plies_reach J n u ok a h fits e alike x walked below
