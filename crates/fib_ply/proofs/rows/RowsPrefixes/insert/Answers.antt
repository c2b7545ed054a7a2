use Rattle.std.proofs.Common.{ap, ◌∙◌}
use Rattle.fib_core_promise.specs.Matches.{added, look_of}
use Rattle.fib_ply.specs.Rows.{held}
use Rattle.fib_ply.proofs.Rowing.{look_added}
use Rattle.fib_ply.proofs.rows.RowsPrefixes.insert.Goals as goal

pub returns-clause-look : goal.returns-clause-look
returns-clause-look c = ap look_of c.take_in.ensures.held ∙ ap (λ e. look_of (added (held c.args.self.now.members) e c.args.object)) c.prefix_of.ensures ∙ look_added (held c.args.self.now.members) c.args.len c.args.top c.args.object
