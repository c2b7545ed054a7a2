use Rattle.std.proofs.Common.{subst}
use Rattle.fib_follow_write.specs.inner.Ready.{AreNumbered}
use Rattle.fib_follow_write.proofs.writing.lead_and_take.Goals as goal

pub returns-in-Ok-clause-taken : goal.returns-in-Ok-clause-taken
returns-in-Ok-clause-taken c = λ f a. subst
    (λ l. AreNumbered l c.in-Ok.entries.items f c.args.lists.now c.take_numbered.new.lists) c.as_slice-2.ensures (c.in-Ok.ensures.taken f a)
