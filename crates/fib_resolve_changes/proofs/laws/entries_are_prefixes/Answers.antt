use Rattle.fib_resolve_changes.proofs.Prefixed.{entries_good}
use Rattle.fib_resolve_changes.proofs.laws.entries_are_prefixes.Goals as goal

pub returns : goal.returns
returns c = entries_good
