use Rattle.fib_control_quiet.proofs.Versions.{joined_first}
use Rattle.fib_control_quiet.proofs.laws.so_does_the_first_change.Goals as goal

pub returns : goal.returns
returns c = λ S T rank new q s queue told seen rest last early sound queued ranks. joined_first S rank q s told seen rest last T new queue early sound queued ranks
