use Rattle.fib_follow_looked.proofs.Growth.{adds_one}
use Rattle.fib_follow_looked.proofs.sets.add_one.Goals as goal

pub returns : goal.returns
returns c = adds_one c.args.set.now c.insert.new.self c.args.e c.in_ok-insert.ensures.members
