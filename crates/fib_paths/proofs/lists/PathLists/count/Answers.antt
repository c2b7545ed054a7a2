use Rattle.std.proofs.Common.{subst}
use Rattle.fib_base_interned.specs.Interned.{AreInterned}
use Rattle.fib_paths.proofs.Listing.{interned_listed}
use Rattle.fib_paths.proofs.lists.PathLists.count.Goals as goal

pub returns-clause-interned : goal.returns-clause-interned
returns-clause-interned c = subst AreInterned c.self.view_is (interned_listed c.self.inside.rows c.count.ensures.interned c.self.invariant)
