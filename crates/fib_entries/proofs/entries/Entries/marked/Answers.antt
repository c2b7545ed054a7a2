use Rattle.std.proofs.Common.{sym, ap, ◌∙◌}
use Rattle.fib_entries_rows.specs.Known.{row_of}
use Rattle.fib_entries_rows.proofs.Standing.{marked_at, none_marked_list}
use Rattle.fib_entries.proofs.entries.Entries.marked.Goals as goal

pub returns-in-Some : goal.returns-in-Some
returns-in-Some c = λ S h.
    let at = ap (λ l. row_of l c.args.prefix) (sym (ap (λ z. z.rows) c.self.view_is)) ∙ sym c.in-Some.ensures in
    c.marked.ensures ∙ marked_at c.args.self.now S h c.args.prefix c.in-Some.r.now at

pub returns-in-None : goal.returns-in-None
returns-in-None c = λ S h.
    let at = ap (λ l. row_of l c.args.prefix) (sym (ap (λ z. z.rows) c.self.view_is)) ∙ sym c.in-None.ensures in
    none_marked_list c.args.self.now S h c.args.prefix at
