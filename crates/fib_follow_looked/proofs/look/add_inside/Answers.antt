use Rattle.std.proofs.Common.{◌∙◌}
use Rattle.std.proofs.lemmas.Result.{on_ok_weaker}
use Rattle.fib_follow_looked.proofs.Growth.{inside_one}
use Rattle.fib_follow_looked.proofs.look.add_inside.Goals as goal

pub returns : goal.returns
returns c = on_ok_weaker c.add_on.result
    (inside_one c.args.after.now.tables c.args.prefix c.args.attached c.in-Some.interface c.as_slice.result.now c.args.set.now c.add_on.new.set c.in-Some.is
    (c.as_slice.ensures.value ∙ c.in_ok-neighbors.ensures)) c.add_on.ensures
