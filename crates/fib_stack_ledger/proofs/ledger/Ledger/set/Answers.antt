use Rattle.std.proofs.Common.{◌≡◌, arith, ap, subst, ◌∙◌, ◌∷◌}
use Rattle.std.specs.Prelude.{Option, None}
use Rattle.std.specs.Option.{MatchOption}
use Rattle.std.specs.Map.{set_value}
use Rattle.std.specs.List.Sorted.{IsPermutation}
use Rattle.fib_addr.specs.Prefixes.{same_prefix}
use Rattle.fib_stack_ledger.specs.Ledgers.{known_of, total}
use Rattle.fib_stack_ledger.specs.declared.ledger.Known.{Known}
use Rattle.fib_stack_ledger.proofs.Books.{total_put, count_put, not_same}
use Rattle.fib_stack_ledger.proofs.ledger.Ledger.set.Goals as goal

-- nothing was known of it any more, so a row came
came : (c : goal.Joined-this) → IsPermutation ((c.args.prefix, c.args.known) ∷ c.self.inside.known.entries) c.insert.new.self.entries
came c =
    let none : c.in-Ok.field-0 ≡ None = c.in-Ok.ensures.old ∙ ap (λ b. known_of b.rows c.args.prefix) c.self.view_is ∙ c.forget-old.ensures.here in
    subst (λ (o : Option Known). MatchOption o (IsPermutation ((c.args.prefix, c.args.known) ∷ c.self.inside.known.entries) c.insert.new.self.entries) (λ _. c.insert.new.self.entries ≡ set_value (same_prefix c.args.prefix) c.self.inside.known.entries c.args.known)) none c.in-Ok.ensures.entries

pub invariant_of-self : goal.invariant_of-self
invariant_of-self c =
    let p = count_put c.args.prefix c.args.known c.self.inside.known.entries c.insert.new.self.entries (came c) in
    (c.in-Ok.ensures.unique, omega (arith, p, c.len.ensures, c.self.invariant.1))

pub returns-clause-others : goal.returns-clause-others
returns-clause-others c = λ e ne. c.in-Ok.ensures.updates.2 e (not_same e c.args.prefix ne) ∙ ap (λ b. known_of b.rows e) c.self.view_is ∙ c.forget-old.ensures.others e ne

pub returns-clause-total : goal.returns-clause-total
returns-clause-total c = λ m.
    let p = total_put c.args.prefix c.args.known c.self.inside.known.entries c.insert.new.self.entries m (came c) in
    let v = ap (λ b. total b.rows m) c.self.view_is in
    omega (arith, p, v, c.forget-old.ensures.total m)

pub returns-clause-counted : goal.returns-clause-counted
returns-clause-counted c = λ m.
    let p = total_put c.args.prefix c.args.known c.self.inside.known.entries c.insert.new.self.entries m (came c) in
    omega (arith, p)
