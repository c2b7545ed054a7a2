use Rattle.std.proofs.Common.{subst}
use Rattle.fib_resolve.specs.Refusals.{edited_in_turn}
use Rattle.fib_config.specs.Config.{TellsFirstRefused}
use Rattle.fib_config.specs.declared.errors.BatchError.{BatchError}
use Rattle.fib_control.proofs.batches.refused_of.Goals as goal

pub returns-in-Refused : goal.returns-in-Refused
returns-in-Refused c = λ S l es why. subst (λ (x : BatchError). TellsFirstRefused (edited_in_turn S l.room es) x) c.in-Refused.is why
