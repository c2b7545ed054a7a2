use mathlib.Core.Path.{fun_ext}
use Rattle.std.proofs.Common.{◌<◌, ◌+◌, arith, ap, ◌∙◌}
use Rattle.std.specs.Prelude.{Result, Ok, Err, OnOk}
use Rattle.fib_stack_ledger.specs.Ledgers.{known_of, count, total}
use Rattle.fib_stack_ledger.proofs.Books.{total_reordered, count_reordered}
use Rattle.fib_stack_ledger.proofs.ledger.Ledger.reserve.Goals as goal

pub returns-clause-known : goal.returns-clause-known
returns-clause-known c = fun_ext (λ e. c.reserve.ensures.entries.2 e ∙ ap (λ b. known_of b.rows e) c.self.view_is)

pub returns-clause-total : goal.returns-clause-total
returns-clause-total c = fun_ext (λ m. total_reordered c.self.inside.known.entries c.reserve.new.self.entries m c.reserve.ensures.entries.0 ∙ ap (λ b. total b.rows m) c.self.view_is)

on_ok : {A B : Type 0} (P : Type 0) (r : Result A B) → P → OnOk r P
on_ok P (Ok x) p = p
on_ok P (Err e) p = tt

pub returns-clause-few : goal.returns-clause-few
returns-clause-few c =
    let k = count_reordered c.self.inside.known.entries c.reserve.new.self.entries c.reserve.ensures.entries.0 in
    on_ok (count c.reserve.new.self.entries + c.args.uses < 4294967295) c.reserve.result (let u = c.self.invariant.1 in let f = c.if-uses-most.false in let g = c.if-self-most.false in grind (arith, k, u, f, g))
