use Rattle.fib_control_quiet.proofs.Early.{dropping_taken, tried_taken}
use Rattle.trial_plain.proofs.prefixes.next_balance.Goals as goal

pub returns-in-Some-clause-tried : goal.returns-in-Some-clause-tried
returns-in-Some-clause-tried g c = tried_taken (g.P.Objects.promise c.args.on.now) c.args.table.now (g.P.Objects.view c.args.on.now) c.requires (g.P.Objects.promise c.take.new.self) (g.P.Objects.view c.take.new.self) c.in-Some.object (g.met.P.Objects.sound c.take.new.self) c.take.ensures.promise c.in-Some.ensures.some

pub returns-in-Some-clause-balance : goal.returns-in-Some-clause-balance
returns-in-Some-clause-balance g c = dropping_taken (g.P.Objects.view c.args.on.now) (g.P.Objects.view c.take.new.self) c.in-Some.object c.in-Some.ensures.some
