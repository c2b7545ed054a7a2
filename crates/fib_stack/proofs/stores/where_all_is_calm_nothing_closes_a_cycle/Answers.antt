use Rattle.fib_stack.proofs.Cycling.{closes_none}
use Rattle.fib_stack.proofs.stores.where_all_is_calm_nothing_closes_a_cycle.Goals as goal

pub returns : goal.returns
returns c = closes_none
