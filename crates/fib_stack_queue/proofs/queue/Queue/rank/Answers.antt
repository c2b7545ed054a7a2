use Rattle.std.proofs.Common.{sym, ap, ◌∙◌}
use Rattle.fib_base_ordered.specs.Sets.{found}
use Rattle.fib_stack_queue.specs.Queues.{key_in}
use Rattle.fib_stack_queue.proofs.Keys.{short}
use Rattle.fib_stack_queue.proofs.Looks.{looks, rank_of}
use Rattle.fib_stack_queue.proofs.queue.Queue.rank.Goals as goal

pub returns-in-Some : goal.returns-in-Some
returns-in-Some c = rw (← c.self.view_is) (sym (looks c.self.inside.order.items c.self.inside.ranks.members c.self.invariant c.args.prefix (short c.args.prefix c.key_of.ensures.prefix)
    ∙ ap rank_of (ap (found key_in c.self.inside.ranks.members) (sym c.key_of.ensures.key) ∙ sym c.find.ensures ∙ c.in-Some.is)))

pub returns-in-None : goal.returns-in-None
returns-in-None c = rw (← c.self.view_is) (sym (looks c.self.inside.order.items c.self.inside.ranks.members c.self.invariant c.args.prefix (short c.args.prefix c.key_of.ensures.prefix)
    ∙ ap rank_of (ap (found key_in c.self.inside.ranks.members) (sym c.key_of.ensures.key) ∙ sym c.find.ensures ∙ c.in-None.is)))
