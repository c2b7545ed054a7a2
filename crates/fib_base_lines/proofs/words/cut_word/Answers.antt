use Rattle.std.proofs.Common.{arith}
use Rattle.std.proofs.lemmas.Bool.Decides.{nat_tests}
use Rattle.fib_base_lines.proofs.WordLemmas.{cut_none, cut_last, cut_first, some_before}
use Rattle.fib_base_lines.proofs.words.cut_word.Goals as goal

pub returns-then-is_empty-clause-word : goal.returns-then-is_empty-clause-word
returns-then-is_empty-clause-word c = cut_none _ _ c.skip_blanks-rest.ensures.same (grind (arith, nat_tests))

pub returns-in-None-clause-word : goal.returns-in-None-clause-word
returns-in-None-clause-word c = cut_last _ _ c.skip_blanks-rest.ensures.same (grind (arith, nat_tests)) (cc)

pub returns-in-Some-clause-word : goal.returns-in-Some-clause-word
returns-in-Some-clause-word c = cut_first _ _ _ c.skip_blanks-rest.ensures.same (grind (arith, nat_tests)) (c.skip_blanks-rest.ensures.word (grind (arith, nat_tests))) (cc)

pub returns-in-Some-clause-some : goal.returns-in-Some-clause-some
returns-in-Some-clause-some c = some_before _ _ (grind (arith, nat_tests)) (c.skip_blanks-rest.ensures.word (grind (arith, nat_tests))) (cc)
