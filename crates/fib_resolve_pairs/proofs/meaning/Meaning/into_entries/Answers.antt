use Rattle.std.proofs.Common.{subst, ◌↔◌}
use Rattle.std.specs.Prelude.{Contains}
use Rattle.fib_resolve.specs.Pairs.{entries}
use Rattle.fib_resolve_pairs.proofs.meaning.Meaning.into_entries.Goals as goal

pub returns-clause-all : goal.returns-clause-all
returns-clause-all c = λ e. subst (λ S. Contains c.self.inside.order e ↔ Contains (entries S) e) c.self.view_is (c.self.invariant.order_is e)
