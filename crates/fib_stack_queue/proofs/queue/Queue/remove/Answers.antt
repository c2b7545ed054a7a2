use Rattle.std.proofs.Common.{refl, ◌≡◌, None, sym, ap, subst, ◌∙◌}
use Rattle.std.specs.Prelude.{ℕ, ◌==◌, if◌then◌else◌}
use Rattle.fib_base_ordered.specs.Sets.{found}
use Rattle.fib_stack_queue.specs.Queues.{key_in}
use Rattle.fib_stack_queue.specs.inner.Steps.{AreInStep}
use Rattle.fib_stack_queue.proofs.Keys.{short}
use Rattle.fib_stack_queue.proofs.Changes.{absent_rank, place_in, gone, ranks_after}
use Rattle.fib_stack_queue.proofs.queue.Queue.remove.Goals as goal

pub returns-in_default-clause-ranks : goal.returns-in_default-clause-ranks
returns-in_default-clause-ranks c = rw (← c.self.view_is) (absent_rank c.self.inside.order.items c.self.inside.ranks.members c.self.invariant c.args.prefix (short c.args.prefix c.key_of.ensures.prefix)
    (ap (found key_in c.self.inside.ranks.members) (sym c.key_of.ensures.key) ∙ sym c.remove.ensures.removed ∙ c.in_default.is))

pub invariant_of-self-2 : goal.invariant_of-self-2
invariant_of-self-2 c = subst (λ l. AreInStep l c.remove.new.self.members) (sym c.take_out.ensures.items)
    (gone c.self.inside.order.items c.self.inside.ranks.members c.self.invariant c.key_of.result c.in-Some.queued (sym c.remove.ensures.removed ∙ c.in-Some.is) c.self.inside.order.items c.count_before-place.result refl c.count_before-place.ensures.bound c.count_before-place.ensures.before c.count_before-place.ensures.from c.remove.new.self.members c.remove.ensures.found)

pub returns-clause-ranks : goal.returns-clause-ranks
returns-clause-ranks c =
    rw (← c.self.view_is) (ranks_after c.self.inside.order.items c.self.inside.ranks.members c.take_out.new.order.items c.remove.new.self.members c.self.invariant (invariant_of-self-2 c) c.args.prefix (short c.args.prefix c.key_of.ensures.prefix) None
    (subst (λ (n : ℕ). (i : ℕ) → found key_in c.remove.new.self.members i ≡ (if n == i then None else found key_in c.self.inside.ranks.members i)) c.key_of.ensures.key c.remove.ensures.found))

pub take_out-requires : goal.take_out-requires
take_out-requires c =
    place_in c.self.inside.order.items c.self.inside.ranks.members c.self.invariant c.key_of.result c.in-Some.queued (sym c.remove.ensures.removed ∙ c.in-Some.is) c.self.inside.order.items c.count_before-place.result refl c.count_before-place.ensures.bound c.count_before-place.ensures.before c.count_before-place.ensures.from
