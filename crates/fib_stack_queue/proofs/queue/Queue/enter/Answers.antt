use Rattle.std.proofs.Common.{refl, Some, take, drop, sym, subst}
use Rattle.fib_stack_queue.specs.Queues.{turn_key}
use Rattle.fib_stack_queue.specs.declared.order.Queued.{Queued}
use Rattle.fib_stack_queue.specs.inner.Steps.{AreInStep}
use Rattle.fib_base_ordered.specs.inner.Blocks.{IsCut}
use Rattle.fib_stack_queue.proofs.Keys.{short}
use Rattle.fib_stack_queue.proofs.Changes.{not_kept, cut_of, step_in, ranks_after}
use Rattle.fib_stack_queue.proofs.queue.Queue.enter.Goals as goal

pub insert-requires-clause-absent : goal.insert-requires-clause-absent
insert-requires-clause-absent c = not_kept c.self.inside.order.items c.self.inside.ranks.members c.self.invariant c.args.prefix (short c.args.prefix c.key_of-key.ensures.prefix) (rw (← c.self.view_is) at c.requires.absent)

pub invariant_of-self : goal.invariant_of-self
invariant_of-self c =
    let xs = c.self.inside.order.items in
    let kept = c.self.inside.ranks.members in
    let j = c.count_before-place.result in
    let q : Queued = record { prefix = c.args.prefix; rank = c.args.rank } in
    let cut : IsCut turn_key (turn_key q) xs (take j xs) (drop j xs) = cut_of (turn_key q) xs xs j refl c.self.invariant.ordered c.count_before-place.ensures.bound c.count_before-place.ensures.before c.count_before-place.ensures.from in
    let none = not_kept xs kept c.self.invariant c.args.prefix (short c.args.prefix c.key_of-key.ensures.prefix) (rw (← c.self.view_is) at c.requires.absent) in
    subst (λ l. AreInStep l c.insert.new.self.members) (sym c.in-Ok.ensures.items) (step_in xs kept c.self.invariant q (take j xs) (drop j xs) cut c.key_of-key.ensures.prefix none c.insert.new.self.members c.insert.ensures.found)

pub returns-clause-ranks : goal.returns-clause-ranks
returns-clause-ranks c =
    let q : Queued = record { prefix = c.args.prefix; rank = c.args.rank } in
    rw (← c.self.view_is) (ranks_after c.self.inside.order.items c.self.inside.ranks.members c.insert-2.new.self.items c.insert.new.self.members c.self.invariant (invariant_of-self c) c.args.prefix (short c.args.prefix c.key_of-key.ensures.prefix) (Some q) c.insert.ensures.found)
