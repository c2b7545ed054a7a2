use Rattle.std.proofs.Common.{◌∙◌, inr}
use Rattle.fib_control.proofs.Taking.{takes_settled, takes_then, tried}
use Rattle.fib_control.proofs.Turning.{turned_on}
use Rattle.fib_control.proofs.control.Control.settle_alone.Goals as goal

pub returns-clause-turned : goal.returns-clause-turned
returns-clause-turned g c =
    turned_on c.args.self.now c.walk.new.self c.scan.new.self c.retry.new.self c.mark_settled.new.self c.walk.ensures.turned c.scan.ensures.parts c.retry.ensures.parts (inr c.in-Ok.ensures.settled)

pub returns-clause-takes : goal.returns-clause-takes
returns-clause-takes g c =
    takes_then c.args.self.now c.retry.new.self c.mark_settled.new.self (c.retry.ensures.same.setup ∙ c.scan.ensures.same.setup ∙ c.walk.ensures.same.setup)
    (tried c.args.self.now c.walk.new.self c.scan.new.self c.retry.new.self c.walk.ensures.same.setup c.scan.ensures.same.setup c.walk.ensures.takes c.scan.ensures.takes c.retry.ensures.takes)
    (takes_settled c.retry.new.self c.mark_settled.new.self c.in-Ok.ensures.settled)
