use Rattle.std.proofs.Common.{sym, subst}
use Rattle.fib_entries_rows.specs.Changes.{FromBefore, IsFollowed}
use Rattle.fib_entries_rows.specs.Known.{Known}
use Rattle.fib_entries.proofs.Carrying.{followed}
use Rattle.fib_entries.proofs.entries.Entries.carry_out.Goals as goal

pub returns-clause-followed : goal.returns-clause-followed
returns-clause-followed c = λ most low lt.
    let v = c.args.self.now in
    let T = c.args.after.now.tables in
    let x = c.args.planned in
    subst (λ (w : Known). FromBefore v c.args.changes.now T
    (λ S. IsFollowed v (record { rows = w.rows; lists = w.lists; objects = x.objects }) S T most x.followed)) (sym c.self.view_is)
    (followed v c.write_noted.new.self c.args.changes.now T x c.requires c.in_ok-write_noted.ensures.ok most low lt)
