use Rattle.fib_resolve_changes.proofs.EditLaws.{interface_touches}
use Rattle.fib_resolve_changes.proofs.laws.interfaces_touch_nothing.Goals as goal

pub returns : goal.returns
returns c = interface_touches
