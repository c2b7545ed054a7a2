use Rattle.fib_resolve_changes.proofs.Caught.{looks_catch}
use Rattle.fib_resolve_changes.proofs.laws.looks_catch_changes.Goals as goal

pub returns : goal.returns
returns c = looks_catch
