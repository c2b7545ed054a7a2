use Rattle.std.proofs.Common.{sym, ◌∙◌}
use Rattle.std.proofs.lemmas.Result.{on_ok_weaker}
use Rattle.fib_follow_plan.proofs.Growing.{so_none, so_one}
use Rattle.fib_follow_plan.proofs.covers.add_so.Goals as goal

pub returns-then-is_so : goal.returns-then-is_so
returns-then-is_so c =
    on_ok_weaker c.add_one.result (so_one c.args.is c.args.x.now c.args.set.now c.add_one.new.set (sym c.is_so.ensures ∙ c.if-is_so.true))
    c.add_one.ensures

pub returns : goal.returns
returns c = so_none c.args.is c.args.x.now c.args.set.now (sym c.is_so.ensures ∙ c.if-is_so.false)
