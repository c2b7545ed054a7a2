use Rattle.fib_union.proofs.Bases.{lowered}
use Rattle.fib_union.proofs.newest.Newest.leave.Goals as goal

pub returns : goal.returns
returns c = rw (← c.self.view_is) (lowered _ _ _ _ c.base_for-self-inside.ensures.same c.args.gone)
