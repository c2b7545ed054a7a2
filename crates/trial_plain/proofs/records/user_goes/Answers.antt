use Rattle.fib_control_quiet.proofs.Early.{may_clear}
use Rattle.trial_plain.proofs.records.user_goes.Goals as goal

pub give_adj-requires-clause-promise : goal.give_adj-requires-clause-promise
give_adj-requires-clause-promise g c = may_clear (g.P.Objects.promise c.args.on.now) (g.P.Objects.view c.args.on.now) c.requires.empty
