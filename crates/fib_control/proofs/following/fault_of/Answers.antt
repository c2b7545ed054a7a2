use Rattle.std.proofs.Common.{subst}
use Rattle.std.specs.Prelude.{min}
use Rattle.fib_config.proofs.Made.{made_refused}
use Rattle.fib_entries.specs.Following.{TellsChange}
use Rattle.fib_entries.specs.declared.errors.ChangeError.{ChangeError}
use Rattle.fib_control.proofs.Telling.{tells_size}
use Rattle.fib_control.proofs.following.fault_of.Goals as goal

pub returns-in-Refused : goal.returns-in-Refused
returns-in-Refused c = λ S e why. made_refused S c.args.limits.room e c.in-Refused.refusal (subst (λ (x : ChangeError). TellsChange S (min c.args.limits.room c.args.limits.free) e x) c.in-Refused.is why)

pub returns-in-TooMany : goal.returns-in-TooMany
returns-in-TooMany c = λ S e why. tells_size S c.args.limits e c.in-TooMany.size c.too_many.result c.requires.room (subst (λ (x : ChangeError). TellsChange S (min c.args.limits.room c.args.limits.free) e x) c.in-TooMany.is why) c.too_many.ensures
