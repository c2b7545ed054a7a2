use Rattle.fib_plane.proofs.Firsts.{first_put}
use Rattle.fib_plane.proofs.laws.the_first_put_may_be_made.Goals as goal

pub returns : goal.returns
returns c = λ p id passes objects workers some is. first_put id passes objects workers some p is
