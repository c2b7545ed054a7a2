use Rattle.fib_commands.proofs.Readings.{at_most_one}
use Rattle.fib_commands.proofs.laws.a_line_has_one_reading.Goals as goal

pub returns : goal.returns
returns c = at_most_one
