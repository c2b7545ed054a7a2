use Rattle.std.proofs.Common.{ap, subst}
use Rattle.fib_entries_rows.specs.Known.{StandsFor}
use Rattle.fib_control.specs.Controls.{tables_in}
use Rattle.fib_control.proofs.control.Control.entries.Goals as goal

pub returns-clause-stands : goal.returns-clause-stands
returns-clause-stands g c = subst (λ T. StandsFor c.self.inside.entries T) (ap tables_in c.self.view_is) c.self.invariant.0.stands
