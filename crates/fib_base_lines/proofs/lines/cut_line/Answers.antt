use Rattle.std.proofs.Common.{arith}
use Rattle.std.proofs.lemmas.Bool.Decides.{nat_tests}
use Rattle.fib_base_lines.proofs.LineLemmas.{first_line, last_line, no_line}
use Rattle.fib_base_lines.proofs.lines.cut_line.Goals as goal

pub returns-then-is_empty-clause-line : goal.returns-then-is_empty-clause-line
returns-then-is_empty-clause-line c = no_line _ (grind (arith, nat_tests))

pub returns-in-Some-clause-line : goal.returns-in-Some-clause-line
returns-in-Some-clause-line c = first_line _ _ _ (cc) c.without_return.ensures

pub returns-in-None-clause-line : goal.returns-in-None-clause-line
returns-in-None-clause-line c = last_line _ _ (grind (arith, nat_tests)) (cc) c.without_return-in-None.ensures
