use Rattle.std.proofs.Common.{sym, ◌∙◌}
use Rattle.std.proofs.lemmas.Result.{on_ok_weaker}
use Rattle.fib_follow_looked.proofs.Growth.{turn_one}
use Rattle.fib_follow_looked.proofs.shorts.add_turned.Goals as goal

pub returns-then-rank : goal.returns-then-rank
returns-then-rank c = on_ok_weaker c.add_one.result
    (turn_one c.args.how c.args.turned c.args.set.now c.add_one.new.set (sym c.rank.ensures ∙ (c.if-rank.true ∙ c.rank-2.ensures))) c.add_one.ensures
