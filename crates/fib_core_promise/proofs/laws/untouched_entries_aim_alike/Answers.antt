use Rattle.fib_core_promise.proofs.Marks.{untouched_aims}
use Rattle.fib_core_promise.proofs.laws.untouched_entries_aim_alike.Goals as goal

pub returns : goal.returns
returns c = untouched_aims
