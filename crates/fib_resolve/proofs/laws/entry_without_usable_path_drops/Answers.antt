use Rattle.fib_resolve.proofs.Answering.{drops}
use Rattle.fib_resolve.proofs.laws.entry_without_usable_path_drops.Goals as goal

pub returns : goal.returns
returns c = drops
