use Rattle.std.proofs.Common.{subst}
use Rattle.fib_entries_rows.specs.Known.{Known}
use Rattle.fib_entries_rows.specs.inner.Building.{AreHeld}
use Rattle.fib_follow_view.proofs.before.Before.rows.Goals as goal

pub returns-clause-held : goal.returns-clause-held
returns-clause-held c = subst (λ (v : Known). AreHeld v.rows v.lists) c.self.view_is c.self.invariant.held
