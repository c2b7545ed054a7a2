use Rattle.std.proofs.Common.{◌∙◌}
use Rattle.fib_stack_queue.proofs.Looks.{least_if, first_is, first_copied}
use Rattle.fib_stack_queue.proofs.queue.Queue.least.Goals as goal

pub returns-clause-least : goal.returns-clause-least
returns-clause-least c = rw (← c.self.view_is) (least_if c.self.inside.order.items c.self.inside.ranks.members c.self.invariant c.copied.result (first_is c.self.inside.order.items c.copied.result (c.copied.ensures ∙ first_copied c.self.inside.order.items c.front.result c.front.ensures.item)))
