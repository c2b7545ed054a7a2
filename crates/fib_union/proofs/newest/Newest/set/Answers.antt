use Rattle.fib_union.proofs.Bases.{numbered}
use Rattle.fib_union.proofs.newest.Newest.set.Goals as goal

pub returns : goal.returns
returns c = rw (← c.self.view_is) (numbered _ _ _ _ c.base_for-self-inside.ensures.same c.args.object c.args.place)
