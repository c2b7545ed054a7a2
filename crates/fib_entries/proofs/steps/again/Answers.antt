use Rattle.std.proofs.Common.{List, sym, subst}
use Rattle.fib_entries_rows.specs.Known.{PathKept}
use Rattle.fib_entries_rows.specs.Rows.{Row}
use Rattle.fib_entries_rows.specs.inner.Building.{AreHeld}
use Rattle.fib_entries.proofs.steps.again.Goals as goal

pub new-requires-clause-held : goal.new-requires-clause-held
new-requires-clause-held c =
    subst (λ (l : List PathKept). AreHeld c.rows.result.now l) (sym c.lists.ensures)
    (subst (λ (r : List Row). AreHeld r c.args.before.now.lists) (sym c.rows.ensures.rows) c.rows.ensures.held)
