use Rattle.std.proofs.lemmas.Result.{IfOk-weaker}
use Rattle.fib_words.proofs.Commands.{added}
use Rattle.fib_tracer.specs.Words.{trace_command}
use Rattle.fib_tracer.proofs.words.trace_command.Goals as goal

pub returns : goal.returns
unfolding trace_command
returns c =
    let one = added _ _ _ _ _ c.in_ok-arg.ensures c.option.ensures.local c.bare_command.ensures c.option.ensures.rule in
    let two = added _ _ _ _ _ c.in_ok-arg-2.ensures c.name.ensures.local one c.name.ensures.rule in
    IfOk-weaker c.arg-3.result _ _ (λ r h. added _ _ _ _ _ h c.name-2.ensures.local two c.name-2.ensures.rule) c.arg-3.ensures
