use Rattle.std.proofs.Common.{sym, ap, ◌∙◌, subst, ◌↔◌}
use Rattle.std.specs.Prelude.{IsTrue}
use Rattle.fib_entries_rows.specs.Known.{row_of}
use Rattle.fib_entries_rows.specs.Rows.{Row}
use Rattle.fib_entries_rows.specs.inner.Compare.{AreAlike}
use Rattle.fib_entries_rows.proofs.Comparing.{both_rows, only_before}
use Rattle.fib_entries.proofs.anew.look_after.Goals as goal

pub returns-in-Some-clause-touched : goal.returns-in-Some-clause-touched
returns-in-Some-clause-touched c = λ S T h k.
    both_rows c.args.before.now c.args.after.now S T h k c.args.r.now.prefix c.args.r.now c.in-Some.s.now c.are_alike.result c.requires.row
    (ap (λ (z : Row). row_of c.args.after.now.rows z.prefix) (sym c.r.view_is) ∙ sym c.in-Some.ensures.value)
    (subst (λ l. IsTrue c.are_alike.result ↔ AreAlike l c.args.after.now.lists c.args.r.now c.in-Some.s.now) c.lists.ensures
    (subst (λ l. IsTrue c.are_alike.result ↔ AreAlike c.lists.result.now l c.args.r.now c.in-Some.s.now) c.lists-in-Some.ensures c.are_alike.ensures))

pub returns-in-None-clause-touched : goal.returns-in-None-clause-touched
returns-in-None-clause-touched c = λ S T h k.
    only_before c.args.before.now c.args.after.now S T h k c.args.r.now.prefix c.args.r.now c.requires.row
    (ap (λ (z : Row). row_of c.args.after.now.rows z.prefix) (sym c.r.view_is) ∙ sym c.in-None.ensures.value)
