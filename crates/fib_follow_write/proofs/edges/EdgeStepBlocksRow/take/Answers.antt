use Rattle.fib_follow_write.proofs.Upon.{led_at, led_none, on_ok, to_lead_at}
use Rattle.fib_follow_write.proofs.edges.EdgeStepBlocksRow.take.Goals as goal

pub push_at-requires : goal.push_at-requires
push_at-requires c = to_lead_at c.args.self.now c.args.state.now c.in-Some.place c.requires c.in-Some.ensures.value c.in-Some.ensures.inside

pub returns-in-Some-clause-ok : goal.returns-in-Some-clause-ok
returns-in-Some-clause-ok c =
    on_ok c.push_at.result _ _ c.push_at.ensures.ok
    (led_at c.args.self.now c.args.state.now c.push_at.new.rows c.in-Some.place c.requires.ordered c.in-Some.ensures.value c.in-Some.ensures.inside)

pub returns-in-None-clause-ok : goal.returns-in-None-clause-ok
returns-in-None-clause-ok c = led_none c.args.self.now c.args.state.now c.requires.ordered c.in-None.ensures.value
