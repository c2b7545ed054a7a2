use Rattle.fib_control_quiet.proofs.Early.{may_let_go}
use Rattle.trial_plain.proofs.records.let_go.Goals as goal

pub let_go-requires-clause-promise : goal.let_go-requires-clause-promise
let_go-requires-clause-promise g c = may_let_go (g.P.Objects.promise c.args.on.now) (g.P.Objects.view c.args.on.now) c.requires.empty c.args.object
