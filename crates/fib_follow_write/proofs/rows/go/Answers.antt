use Rattle.fib_follow_write.proofs.Going.{gone_at, gone_none}
use Rattle.fib_follow_write.proofs.rows.go.Goals as goal

pub returns-in-Some : goal.returns-in-Some
returns-in-Some c =
    gone_at c.args.prefix c.args.rows.now c.take_out.new.rows c.in-Some.place c.requires c.in-Some.ensures.value c.in-Some.ensures.inside c.take_out.ensures

pub returns-in-None : goal.returns-in-None
returns-in-None c = gone_none c.args.prefix c.args.rows.now c.requires c.in-None.ensures.value
