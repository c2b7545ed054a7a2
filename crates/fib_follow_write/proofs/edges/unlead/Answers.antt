use Rattle.fib_follow_write.proofs.Going.{unled_at, unled_none}
use Rattle.fib_follow_write.proofs.edges.unlead.Goals as goal

pub returns-in-Some : goal.returns-in-Some
returns-in-Some c =
    unled_at c.args.edge c.args.rows.now c.remove_at.new.rows c.in-Some.place c.requires c.in-Some.ensures.value c.in-Some.ensures.inside c.remove_at.ensures

pub returns-in-None : goal.returns-in-None
returns-in-None c = unled_none c.args.edge c.args.rows.now c.in-None.ensures.value
