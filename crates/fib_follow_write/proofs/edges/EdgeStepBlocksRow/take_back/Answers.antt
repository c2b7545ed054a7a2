use Rattle.fib_follow_write.proofs.Upon.{led_back, led_back_none, led_ordered}
use Rattle.fib_follow_write.proofs.edges.EdgeStepBlocksRow.take_back.Goals as goal

pub place_of-requires : goal.place_of-requires
place_of-requires c = led_ordered c.args.self.now c.requires.0 c.args.state.now c.requires.1

pub returns-in-Some : goal.returns-in-Some
returns-in-Some c = λ before l.
    led_back c.args.self.now before c.args.state.now c.pop_at.new.rows c.in-Some.place l c.in-Some.ensures.value c.in-Some.ensures.inside c.pop_at.ensures

pub returns-in-None : goal.returns-in-None
returns-in-None c = λ before l. led_back_none c.args.self.now before c.args.state.now l c.in-None.ensures.value
