use Rattle.fib_follow_write.proofs.Coming.{came_back, came_not, came_ordered}
use Rattle.fib_follow_write.proofs.rows.PrefixStepBlocksRow.take_back.Goals as goal

pub place_of-requires : goal.place_of-requires
place_of-requires c = came_ordered c.args.self.now c.requires.0 c.args.state.now c.requires.1

pub returns-in-Some : goal.returns-in-Some
returns-in-Some c = λ before h.
    came_back c.args.self.now before c.args.state.now h c.take_out.new.rows c.in-Some.place c.in-Some.ensures.value c.in-Some.ensures.inside c.take_out.ensures

pub returns-in-None : goal.returns-in-None
returns-in-None c = λ before h. absurd (came_not c.args.self.now before c.args.state.now h c.in-None.ensures.value)
