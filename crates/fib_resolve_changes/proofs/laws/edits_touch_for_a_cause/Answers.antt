use Rattle.fib_resolve_changes.proofs.EditLaws.{edit_touches}
use Rattle.fib_resolve_changes.proofs.laws.edits_touch_for_a_cause.Goals as goal

pub returns : goal.returns
returns c = edit_touches
