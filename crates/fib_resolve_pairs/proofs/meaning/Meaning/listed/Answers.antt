use Rattle.std.proofs.Common.{sym, subst, List, ◌↔◌}
use Rattle.std.specs.Prelude.{Contains}
use Rattle.fib_addr.specs.Prefixes.{Prefix}
use Rattle.fib_cover.specs.Covers.{ArePrefixes}
use Rattle.fib_resolve.specs.Pairs.{entries}
use Rattle.fib_resolve_pairs.proofs.meaning.Meaning.listed.Goals as goal

pub returns-clause-all : goal.returns-clause-all
returns-clause-all c = λ e.
    subst (λ (l : List Prefix). Contains l e ↔ Contains (entries c.args.self.now) e) (sym c.in_ok-listed.ensures.listed)
    (subst (λ S. Contains c.self.inside.order e ↔ Contains (entries S) e) c.self.view_is (c.self.invariant.order_is e))

pub returns-clause-prefixes : goal.returns-clause-prefixes
returns-clause-prefixes c = subst ArePrefixes (sym c.in_ok-listed.ensures.listed) c.len-count.ensures.prefixes
