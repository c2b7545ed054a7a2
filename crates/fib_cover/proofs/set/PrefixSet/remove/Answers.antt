use Rattle.fib_cover.proofs.Order.{contains_iff, removed_iff, prefixes_removed}
use Rattle.fib_cover.proofs.set.PrefixSet.remove.Goals as goal

pub returns-clause-changed : goal.returns-clause-changed
returns-clause-changed c = rw (c.remove.ensures.test, ← c.self.view_is) (contains_iff c.self.inside.members c.args.prefix)

pub returns-clause-members : goal.returns-clause-members
returns-clause-members c = rw (← c.self.view_is) (removed_iff c.self.inside.members c.remove.new.self c.args.prefix c.remove.ensures.updates.0)

pub invariant_of-self : goal.invariant_of-self
invariant_of-self c = record {
  prefixes = prefixes_removed c.self.inside.members c.remove.new.self c.args.prefix c.remove.ensures.updates.0 c.self.invariant.prefixes;
  marked = λ q k. c.self.invariant.marked q ((removed_iff c.self.inside.members c.remove.new.self c.args.prefix c.remove.ensures.updates.0 q).0 k).0;
}
