use Rattle.fib_core.proofs.Passes.{visits_once}
use Rattle.fib_core.proofs.laws.passes_visit_no_object_twice.Goals as goal

pub returns : goal.returns
returns c = visits_once
