use Rattle.std.proofs.Common.{subst, ◌∙◌}
use Rattle.std.specs.Set.{is_member}
use Rattle.fib_addr.specs.Prefixes.{same_prefix}
use Rattle.fib_follow_looked.specs.inner.Adding.{Adds}
use Rattle.fib_follow_looked.proofs.Catching.{all_looked, has_all, only_those}
use Rattle.fib_follow_looked.proofs.look.looked.Goals as goal

pub returns-clause-all : goal.returns-clause-all
returns-clause-all c = λ list S asks h named shorts ask found.
    let both = has_all c.args.named.now.prefixes c.args.hosts.now c.new-set.result c.add_all.new.set c.add_all-2.new.set c.add_each_near.new.set
    c.args.shorts.now
    (subst (λ l. Adds (is_member same_prefix l) c.new-set.result c.add_all.new.set)
    (c.as_slice.ensures.value ∙ c.in_ok-list.ensures.listed) c.in_ok-add_all.ensures)
    c.in_ok-add_all-2.ensures c.in_ok-add_each_near.ensures.more in
    all_looked list S c.args.after.now.tables asks c.args.hosts.now c.add_each_near.new.set c.args.named.now c.args.shorts.now named shorts ask found
    both.0 both.1
    (c.in_ok-add_each_near.ensures.near S h.stands shorts)

pub returns-clause-only : goal.returns-clause-only
returns-clause-only c = λ list S h named shorts.
    only_those list S c.args.after.now.tables c.args.named.now c.args.shorts.now c.args.hosts.now c.as_slice.result.now c.new-set.result c.add_all.new.set
    c.add_all-2.new.set c.add_each_near.new.set named shorts c.new-set.ensures (c.as_slice.ensures.value ∙ c.in_ok-list.ensures.listed)
    c.in_ok-add_all.ensures c.in_ok-add_all-2.ensures (c.in_ok-add_each_near.ensures.only S h.stands shorts)
