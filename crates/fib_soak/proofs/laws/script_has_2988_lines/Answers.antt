use Rattle.fib_soak.proofs.Counts.{all_lines}
use Rattle.fib_soak.proofs.laws.script_has_2988_lines.Goals as goal

pub returns : goal.returns
returns c = all_lines
