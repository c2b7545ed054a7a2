use Rattle.std.proofs.lemmas.Result.{on_ok_weaker}
use Rattle.fib_follow_looked.proofs.Growth.{near_one}
use Rattle.fib_follow_looked.proofs.look.add_if_on.Goals as goal

pub returns-then-n-interface : goal.returns-then-n-interface
returns-then-n-interface c = on_ok_weaker c.add_one.result
    (near_one c.args.interface c.args.n c.host.result c.args.set.now c.add_one.new.set c.if-n-interface.true c.host.ensures) c.add_one.ensures
