use Rattle.std.proofs.Common.{arith, ◌≡◌, ◌<◌, ℕ, subst}
use Rattle.fib_resolve.specs.Sizes.{size}
use Rattle.fib_control.specs.Controls.{IsTooMuch, WantsMore}
use Rattle.fib_control.specs.declared.errors.ApplyError.{ApplyError}
use Rattle.fib_control.proofs.Telling.{batch_crowded}
use Rattle.fib_control.proofs.batches.crowded_of.Goals as goal

pub returns-in-Crowded : goal.returns-in-Crowded
returns-in-Crowded c = λ S T l es made much. batch_crowded S T l es c.in-Crowded.free c.in-Crowded.wanted made (subst (λ (x : ApplyError). IsTooMuch l (size T) x) c.in-Crowded.is much)

pub returns-in-Memory : goal.returns-in-Memory
returns-in-Memory c = λ S T l es made much. tt

pub unreachable-requires : goal.unreachable-requires
unreachable-requires c = subst WantsMore c.in-Refused.is c.requires
