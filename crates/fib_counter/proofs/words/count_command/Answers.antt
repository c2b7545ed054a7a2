use Rattle.std.proofs.lemmas.Result.{IfOk-weaker}
use Rattle.fib_words.proofs.Commands.{added}
use Rattle.fib_counter.specs.Words.{count_command}
use Rattle.fib_counter.proofs.words.count_command.Goals as goal

pub returns : goal.returns
unfolding count_command
returns c =
    let one = added _ _ _ _ _ c.in_ok-arg.ensures c.option.ensures.local c.bare_command.ensures c.option.ensures.rule in
    let two = added _ _ _ _ _ c.in_ok-arg-2.ensures c.option-2.ensures.local one c.option-2.ensures.rule in
    let three = added _ _ _ _ _ c.in_ok-arg-3.ensures c.name.ensures.local two c.name.ensures.rule in
    IfOk-weaker c.arg-4.result _ _ (λ r h. added _ _ _ _ _ h c.name-2.ensures.local three c.name-2.ensures.rule) c.arg-4.ensures
