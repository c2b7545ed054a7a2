use Rattle.std.proofs.Common.{arith}
use Rattle.fib_control_quiet.proofs.Early.{may_clear}
use Rattle.trial_plain.proofs.Taking.{clear_after, users_at_least}
use Rattle.trial_plain.proofs.records.take_listed.Goals as goal

pub take_all-requires-clause-few : goal.take_all-requires-clause-few
take_all-requires-clause-few g c = λ m. (let z = c.requires.none m in omega (arith, z))

pub take_all-requires-clause-promise : goal.take_all-requires-clause-promise
take_all-requires-clause-promise g c = may_clear (g.P.Objects.promise c.args.on.now) (g.P.Objects.view c.args.on.now) c.requires.empty

pub returns-in-Ok-clause-clear : goal.returns-in-Ok-clause-clear
returns-in-Ok-clause-clear g c =
    clear_after (g.P.Objects.promise c.args.on.now) (g.P.Objects.promise c.take_all.new.on) (g.P.Objects.view c.args.on.now) (g.P.Objects.view c.take_all.new.on)
    (may_clear (g.P.Objects.promise c.args.on.now) (g.P.Objects.view c.args.on.now) c.requires.empty) c.take_all.ensures.promise c.take_all.ensures.serves

pub returns-in-Ok-clause-users : goal.returns-in-Ok-clause-users
returns-in-Ok-clause-users g c = λ m. users_at_least _ _ _ (c.in-Ok.ensures.ok.users m)

pub returns-in-Ok-clause-objects : goal.returns-in-Ok-clause-objects
returns-in-Ok-clause-objects g c = c.in-Ok.ensures.ok.objects
