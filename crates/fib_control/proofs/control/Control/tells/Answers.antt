use Rattle.std.proofs.Common.{subst}
use Rattle.fib_resolve_changes.specs.Ranks.{IsRanked}
use Rattle.fib_control.specs.Controls.{Control, rank_by, tables_in}
use Rattle.fib_control.proofs.Resting.{is_ranked}
use Rattle.fib_control.proofs.control.Control.tells.Goals as goal

pub returns-clause-ranked : goal.returns-clause-ranked
returns-clause-ranked g c = subst (λ (x : Control). IsRanked (tables_in x) (rank_by x)) c.self.view_is (is_ranked _ c.self.invariant.0)
