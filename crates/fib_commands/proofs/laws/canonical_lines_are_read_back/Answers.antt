use Rattle.fib_commands.proofs.AgainLines.{edit_again}
use Rattle.fib_commands.proofs.laws.canonical_lines_are_read_back.Goals as goal

pub returns : goal.returns
returns c = edit_again
