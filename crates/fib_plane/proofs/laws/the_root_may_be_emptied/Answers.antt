use Rattle.fib_plane.proofs.Firsts.{empty_put}
use Rattle.fib_plane.proofs.laws.the_root_may_be_emptied.Goals as goal

pub returns : goal.returns
returns c = empty_put
