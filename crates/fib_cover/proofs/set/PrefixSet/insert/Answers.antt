use Rattle.std.proofs.Common.{arith, subst, sym, ◌∙◌}
use Rattle.std.specs.BTreeSet.{contains}
use Rattle.fib_cover.specs.Covers.{prefix_cmp}
use Rattle.fib_cover.specs.inner.Lengths.{AreMembers}
use Rattle.fib_cover.proofs.Lengths.{marked_with}
use Rattle.fib_cover.proofs.Order.{not_iff, contains_iff, inserted_iff, prefixes_inserted}
use Rattle.fib_cover.proofs.set.PrefixSet.insert.Goals as goal

pub returns-clause-changed : goal.returns-clause-changed
returns-clause-changed c =
    rw (c.in_ok-added.ensures.added, ← c.self.view_is) (not_iff (contains prefix_cmp c.self.inside.members c.args.prefix) _ (contains_iff c.self.inside.members c.args.prefix))

pub returns-clause-members : goal.returns-clause-members
returns-clause-members c = rw (← c.self.view_is) (inserted_iff c.self.inside.members c.insert.new.self c.args.prefix c.in_ok-added.ensures.updates.0)

pub invariant_of-self : goal.invariant_of-self
invariant_of-self c = subst (AreMembers c.self.inside.lengths) (sym c.in_err-added.ensures.err) c.self.invariant

pub invariant_of-self-2 : goal.invariant_of-self-2
invariant_of-self-2 c =
    let there = inserted_iff c.self.inside.members c.insert.new.self c.args.prefix c.in_ok-added.ensures.updates.0 in
    record {
      prefixes = prefixes_inserted c.self.inside.members c.insert.new.self c.args.prefix c.in_ok-added.ensures.updates.0 c.len-length.ensures.prefix c.self.invariant.prefixes;
      marked = rw (c.from.ensures ∙ c.len-length.ensures.value)
          (marked_with c.self.inside.lengths c.self.inside.members.keys c.insert.new.self.keys c.args.prefix (omega (arith, c.self.ranges, c.len-length.ensures.bound, c.len-length.ensures.value)) (λ q k. (there q).0 k) c.self.invariant.marked);
    }
