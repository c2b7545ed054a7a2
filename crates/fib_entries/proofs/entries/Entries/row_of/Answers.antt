use Rattle.std.proofs.Common.{◌≡◌, List, Option, Some, None, Bor, sym, subst}
use Rattle.std.specs.Prelude.{IfSome, option_copied}
use Rattle.fib_addr.specs.Prefixes.{Prefix}
use Rattle.fib_entries_rows.specs.Rows.{Row}
use Rattle.fib_entries_rows.specs.Known.{PathKept, Known, row_of}
use Rattle.fib_entries_rows.specs.inner.Building.{AreHeld}
use Rattle.fib_entries_rows.specs.inner.Compare.{AreKept}
use Rattle.fib_entries_rows.proofs.Standing.{row_there}
use Rattle.fib_entries.proofs.entries.Entries.row_of.Goals as goal

kept_here : (rows : List Row) (lists : List PathKept) (e : Prefix) (o : Option (Bor Row)) → AreHeld rows lists → option_copied o ≡ row_of rows e → IfSome o (λ r. AreKept lists r.now.pairs)
kept_here rows lists e None held is = tt
kept_here rows lists e (Some r) held is = λ p c. held r.now p (row_there rows e r.now (sym is)).0 c

pub returns-clause-held : goal.returns-clause-held
returns-clause-held c =
    subst (λ (v : Known). IfSome c.row.result (λ r. AreKept v.lists r.now.pairs)) c.self.view_is
    (kept_here c.self.inside.rows c.self.inside.lists c.args.prefix c.row.result c.self.invariant.used.held (c.row.ensures))
