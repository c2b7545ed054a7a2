use Rattle.fib_core_promise.proofs.Answers.{promised_answer_removed}
use Rattle.fib_core_promise.proofs.laws.and_as_a_prefix_leaves.Goals as goal

pub returns : goal.returns
returns c = λ J now look q a o e here all fits still leaves small p. promised_answer_removed J now here look q all fits e still leaves a o small p
