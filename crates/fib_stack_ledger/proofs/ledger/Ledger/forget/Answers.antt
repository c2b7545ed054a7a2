use Rattle.std.proofs.Common.{◌+◌, length, arith, ap, ◌∙◌}
use Rattle.fib_addr.specs.Prefixes.{same_prefix}
use Rattle.fib_stack_ledger.specs.Ledgers.{known_of, used_by, count, total, times}
use Rattle.fib_stack_ledger.proofs.Books.{total_removed, count_removed, uses_within, not_same}
use Rattle.fib_stack_ledger.proofs.ledger.Ledger.forget.Goals as goal

pub overflow_sub-self : goal.overflow_sub-self
overflow_sub-self c =
    let e = c.uses_of.ensures ∙ ap (λ o. length (used_by o)) c.remove-old.ensures.value in
    let w = uses_within c.self.inside.known.entries c.args.prefix in
    omega (arith, e, w, c.self.invariant.1)

pub invariant_of-self : goal.invariant_of-self
invariant_of-self c =
    let e = c.uses_of.ensures ∙ ap (λ o. length (used_by o)) c.remove-old.ensures.value in
    let w = count_removed (same_prefix c.args.prefix) c.self.inside.known.entries c.remove-old.new.self.entries c.remove-old.ensures.entries in
    (c.remove-old.ensures.unique, omega (arith, e, w, c.self.invariant.1))

pub returns-clause-others : goal.returns-clause-others
returns-clause-others c = λ e ne. c.remove-old.ensures.updates.2 e (not_same e c.args.prefix ne) ∙ ap (λ b. known_of b.rows e) c.self.view_is

pub returns-clause-total : goal.returns-clause-total
returns-clause-total c = λ m.
    ap (λ o. times m (used_by o) + total c.remove-old.new.self.entries m) c.remove-old.ensures.value
    ∙ total_removed (same_prefix c.args.prefix) c.self.inside.known.entries c.remove-old.new.self.entries m c.remove-old.ensures.entries
    ∙ ap (λ b. total b.rows m) c.self.view_is

pub returns-clause-count : goal.returns-clause-count
returns-clause-count c =
    ap (λ o. length (used_by o) + count c.remove-old.new.self.entries) c.remove-old.ensures.value
    ∙ count_removed (same_prefix c.args.prefix) c.self.inside.known.entries c.remove-old.new.self.entries c.remove-old.ensures.entries
    ∙ ap (λ b. count b.rows) c.self.view_is
