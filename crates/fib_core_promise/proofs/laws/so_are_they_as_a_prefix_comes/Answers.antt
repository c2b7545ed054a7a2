use Rattle.fib_core_promise.proofs.Answers.{promised_answer_added}
use Rattle.fib_core_promise.proofs.laws.so_are_they_as_a_prefix_comes.Goals as goal

pub returns : goal.returns
returns c = λ J now look q a o r e here all fits absent still prefix sometime small p. promised_answer_added J now here look q all fits e r absent still prefix sometime a o small p
