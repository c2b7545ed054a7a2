use Rattle.std.proofs.Common.{[], subst}
use Rattle.fib_follow_told.specs.inner.Gathered.{Gathers}
use Rattle.fib_follow_told.proofs.Writing.{written_each, written_holds}
use Rattle.fib_follow_told.proofs.written.Written.of.Goals as goal

pub returns-clause-once : goal.returns-clause-once
returns-clause-once c = c.in_ok-see_each-2.ensures.once

pub returns-clause-each : goal.returns-clause-each
returns-clause-each c =
    written_each c.args.part.now.members c.args.others.now c.see_each.new.seen c.see_each-2.new.seen
    (subst (λ l. Gathers l [] c.see_each.new.seen) c.members.ensures
    (subst (λ l. Gathers c.members.result.now l c.see_each.new.seen) c.new-held.ensures c.in_ok-see_each.ensures))
    c.in_ok-see_each-2.ensures

pub returns-clause-holds : goal.returns-clause-holds
returns-clause-holds c = λ v S T is are.
    written_holds v S T c.args.part.now c.args.others.now c.see_each-2.new.seen is are
    (written_each c.args.part.now.members c.args.others.now c.see_each.new.seen c.see_each-2.new.seen
    (subst (λ l. Gathers l [] c.see_each.new.seen) c.members.ensures
    (subst (λ l. Gathers c.members.result.now l c.see_each.new.seen) c.new-held.ensures c.in_ok-see_each.ensures))
    c.in_ok-see_each-2.ensures)
