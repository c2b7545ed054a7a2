use Rattle.std.proofs.Common.{subst}
use Rattle.fib_cover.specs.Covers.{ArePrefixes}
use Rattle.fib_cover.proofs.set.PrefixSet.len.Goals as goal

pub returns-clause-prefixes : goal.returns-clause-prefixes
returns-clause-prefixes c = subst ArePrefixes c.self.view_is c.self.invariant.prefixes
