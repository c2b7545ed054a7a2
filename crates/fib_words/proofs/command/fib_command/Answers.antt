use Rattle.std.proofs.lemmas.Result.{IfOk-weaker}
use Rattle.fib_words.specs.Words.{fib_command}
use Rattle.fib_words.proofs.Commands.{added}
use Rattle.fib_words.proofs.command.fib_command.Goals as goal

pub returns : goal.returns
unfolding fib_command
returns c =
    let bare = c.bare_command.ensures in
    let one = added _ _ _ _ _ c.in_ok-arg.ensures c.option.ensures.local bare c.option.ensures.rule in
    let two = added _ _ _ _ _ c.in_ok-arg-2.ensures c.option-2.ensures.local one c.option-2.ensures.rule in
    let three = added _ _ _ _ _ c.in_ok-arg-3.ensures c.option-3.ensures.local two c.option-3.ensures.rule in
    let four = added _ _ _ _ _ c.in_ok-arg-4.ensures c.option-4.ensures.local three c.option-4.ensures.rule in
    let five = added _ _ _ _ _ c.in_ok-arg-5.ensures c.name.ensures.local four c.name.ensures.rule in
    IfOk-weaker c.arg-6.result _ _ (λ r h. added _ _ _ _ _ h c.name-2.ensures.local five c.name-2.ensures.rule) c.arg-6.ensures
