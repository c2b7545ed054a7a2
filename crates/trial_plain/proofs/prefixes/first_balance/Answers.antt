use Rattle.fib_control_quiet.proofs.Early.{dropping_taken, empty_taken}
use Rattle.trial_plain.proofs.prefixes.first_balance.Goals as goal

pub returns-in-Some-clause-empty : goal.returns-in-Some-clause-empty
returns-in-Some-clause-empty g c = empty_taken (g.P.Objects.promise c.args.on.now) (g.P.Objects.promise c.take.new.self) (g.P.Objects.view c.args.on.now) (g.P.Objects.view c.take.new.self) c.in-Some.object c.requires c.take.ensures.promise c.in-Some.ensures.some

pub returns-in-Some-clause-balance : goal.returns-in-Some-clause-balance
returns-in-Some-clause-balance g c = dropping_taken (g.P.Objects.view c.args.on.now) (g.P.Objects.view c.take.new.self) c.in-Some.object c.in-Some.ensures.some
