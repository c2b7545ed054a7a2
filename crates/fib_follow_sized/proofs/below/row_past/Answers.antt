use Rattle.fib_entries_rows.specs.Known.{prefix_of}
use Rattle.fib_follow_sized.proofs.Walking.{past_found, past_missed}
use Rattle.fib_follow_sized.proofs.below.row_past.Goals as goal

pub returns-in-Ok-clause-past : goal.returns-in-Ok-clause-past
returns-in-Ok-clause-past c = past_found prefix_of c.args.rows.now c.args.q c.in-Ok.place c.requires c.in-Ok.ensures.bound c.in-Ok.ensures.position

pub returns-in-Err-clause-past : goal.returns-in-Err-clause-past
returns-in-Err-clause-past c = past_missed prefix_of c.args.rows.now c.args.q c.in-Err.place c.requires c.in-Err.ensures.position
