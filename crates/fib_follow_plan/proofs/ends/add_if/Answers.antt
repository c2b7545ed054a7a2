use Rattle.fib_follow_plan.proofs.Ending.{end_off, end_put}
use Rattle.fib_follow_plan.proofs.ends.add_if.Goals as goal

pub returns-then-not-test : goal.returns-then-not-test
returns-then-not-test c = end_off c.args.test c.args.end c.args.held.now.keys c.if-not-test.true

pub returns : goal.returns
returns c = end_put c.args.test c.args.end c.args.held.now.keys c.insert.new.self.keys c.if-not-test.false c.in_ok-insert.ensures.updates.0
