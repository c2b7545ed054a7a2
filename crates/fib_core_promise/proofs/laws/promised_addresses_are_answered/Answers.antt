use Rattle.fib_core_promise.proofs.Answers.{promised_answer}
use Rattle.fib_core_promise.proofs.laws.promised_addresses_are_answered.Goals as goal

pub returns : goal.returns
returns c = λ J now look q a o here all fits small p. promised_answer J now here look q all fits a o small p
