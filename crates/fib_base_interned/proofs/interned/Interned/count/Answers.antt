use Rattle.std.proofs.Common.{nat_eq, subst}
use Rattle.std.specs.HashMap.{get}
use Rattle.fib_base_interned.specs.Interned.{AreInterned}
use Rattle.fib_base_interned.proofs.Rows.{rows_interned}
use Rattle.fib_base_interned.proofs.interned.Interned.count.Goals as goal

pub returns-clause-interned : goal.returns-clause-interned
returns-clause-interned g c =
    subst AreInterned c.self.view_is
    (rows_interned _ g.met.T.Eq.laws.refl c.self.inside.rows.entries (get nat_eq c.self.inside.places) c.self.invariant c.len.ensures.unique)
