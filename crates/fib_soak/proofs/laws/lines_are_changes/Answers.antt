use Rattle.fib_soak.proofs.Changing.{lines_are_changes}
use Rattle.fib_soak.proofs.laws.lines_are_changes.Goals as goal

pub returns : goal.returns
returns c = lines_are_changes
