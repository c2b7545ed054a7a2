use Rattle.fib_resolve_changes.proofs.Named.{named_catch}
use Rattle.fib_resolve_changes.proofs.laws.changes_name_sources.Goals as goal

pub returns : goal.returns
returns c = named_catch
