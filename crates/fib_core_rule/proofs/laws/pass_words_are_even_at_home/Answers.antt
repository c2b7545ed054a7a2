use Rattle.fib_core_rule.proofs.Tells.{even_at_home}
use Rattle.fib_core_rule.proofs.laws.pass_words_are_even_at_home.Goals as goal

pub returns : goal.returns
returns c = λ objects seat n words views d s mine lt home. even_at_home objects words views s seat d mine n lt home
