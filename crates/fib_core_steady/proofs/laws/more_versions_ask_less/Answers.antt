use Rattle.fib_core_steady.proofs.Events.{asks_less}
use Rattle.fib_core_steady.proofs.laws.more_versions_ask_less.Goals as goal

pub returns : goal.returns
returns c = asks_less
