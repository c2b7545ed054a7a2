use Rattle.fib_core_rule.proofs.Example.{first_store}
use Rattle.fib_core_rule.proofs.laws.the_first_store_may_be_made.Goals as goal

pub returns : goal.returns
returns c = λ objects workers some. first_store objects some workers
