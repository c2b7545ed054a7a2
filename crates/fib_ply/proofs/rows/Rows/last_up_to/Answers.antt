use Rattle.std.proofs.Common.{◌+◌, ap, ◌∙◌}
use Rattle.fib_ply.proofs.Rowing.{key}
use Rattle.fib_ply.proofs.Upto.{some_last, none_last}
use Rattle.fib_ply.proofs.rows.Rows.last_up_to.Goals as goal

pub returns-clause-some : goal.returns-clause-some
returns-clause-some c = rw (← c.self.view_is) (some_last c.self.inside.rows.members c.self.invariant c.last_below.ensures.ordered c.args.len c.args.top (c.key_of.result + 1) (ap (λ k. k + 1) (c.key_of.ensures.key ∙ ap key c.prefix_of.ensures)) c.last_below.result c.last_below.ensures.last)

pub returns-clause-none : goal.returns-clause-none
returns-clause-none c = rw (← c.self.view_is) (none_last c.self.inside.rows.members c.self.invariant c.last_below.ensures.ordered c.args.len c.args.top (c.key_of.result + 1) (ap (λ k. k + 1) (c.key_of.ensures.key ∙ ap key c.prefix_of.ensures)) c.last_below.result c.last_below.ensures.last)
