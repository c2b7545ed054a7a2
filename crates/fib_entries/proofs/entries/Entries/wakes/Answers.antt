use Rattle.std.proofs.Common.{sym, ap, ◌∙◌}
use Rattle.fib_entries_rows.specs.inner.Waking.{aims_at}
use Rattle.fib_entries_rows.proofs.Woken.{row_wakes, none_wakes}
use Rattle.fib_entries.proofs.entries.Entries.wakes.Goals as goal

pub returns-in-Some : goal.returns-in-Some
returns-in-Some c = λ S h.
    c.aims_at.ensures ∙ (ap (λ l. aims_at c.args.target l c.looped.result.now) c.marked.ensures ∙ (ap (aims_at c.args.target c.in-Some.r.now.marked) c.looped.ensures
    ∙ row_wakes c.args.self.now S h c.args.entry c.args.target c.in-Some.r.now (sym c.in-Some.ensures.value)))

pub returns-in-None : goal.returns-in-None
returns-in-None c = λ S h. none_wakes c.args.self.now S h c.args.entry c.args.target (sym c.in-None.ensures.value)
