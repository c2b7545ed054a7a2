use Rattle.std.proofs.Common.{arith}
use Rattle.std.proofs.lemmas.Grind.{common_steps}
use Rattle.fib_print.proofs.Growing.{kept_on, kept_one}
use Rattle.fib_print.proofs.text.write_mac.Goals as goal

pub returns-clause-err : goal.returns-clause-err
returns-clause-err c = grind (arith, common_steps, kept_on, kept_one)
