use Rattle.fib_reach.proofs.Rounds.{stable}
use Rattle.fib_reach.proofs.laws.rounds_come_to_rest.Goals as goal

pub returns : goal.returns
returns g c = λ passes nodes grows goes_on n h. stable passes nodes grows goes_on n h
