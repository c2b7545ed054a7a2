use Rattle.std.proofs.lemmas.Result.{on_ok_weaker}
use Rattle.fib_follow_looked.proofs.Growth.{hop_one}
use Rattle.fib_follow_looked.proofs.named.add_hop.Goals as goal

pub returns-in-Some : goal.returns-in-Some
returns-in-Some c = on_ok_weaker c.add_one.result
    (hop_one c.args.hop c.in-Some.a c.host.result c.args.set.now c.add_one.new.set c.in-Some.is c.host.ensures) c.add_one.ensures
