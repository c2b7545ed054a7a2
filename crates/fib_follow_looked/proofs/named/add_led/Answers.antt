use Rattle.std.proofs.lemmas.Result.{on_ok_weaker}
use Rattle.fib_follow_looked.proofs.Growth.{led_one}
use Rattle.fib_follow_looked.proofs.named.add_led.Goals as goal

pub returns-in-Route : goal.returns-in-Route
returns-in-Route c = on_ok_weaker c.add_hops.result
    (led_one c.args.after.now.tables c.in-Route.prefix c.in-Route.source c.paths_of.result.now c.args.change c.args.set.now c.add_hops.new.set
    c.in-Route.is c.paths_of.ensures)
    c.add_hops.ensures
