use Rattle.std.proofs.Common.{ap, ◌∙◌}
use Rattle.fib_core_promise.specs.Matches.{removed, look_of}
use Rattle.fib_ply.specs.Rows.{held}
use Rattle.fib_ply.proofs.Rowing.{look_removed}
use Rattle.fib_ply.proofs.rows.RowsPrefixes.remove.Goals as goal

pub returns-clause-look : goal.returns-clause-look
returns-clause-look c = ap look_of c.take_out.ensures.held ∙ ap (λ e. look_of (removed (held c.args.self.now.members) e)) c.prefix_of.ensures ∙ look_removed (held c.args.self.now.members) c.args.len c.args.top
