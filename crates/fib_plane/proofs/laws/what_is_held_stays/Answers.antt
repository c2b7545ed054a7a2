use Rattle.std.proofs.Common.{arith}
use Rattle.fib_union.specs.Unions.{owner}
use Rattle.fib_plane.proofs.Holding.{held_stays}
use Rattle.fib_plane.proofs.laws.what_is_held_stays.Goals as goal

pub returns-clause-held : goal.returns-clause-held
returns-clause-held c = λ b d xs ys o s h. held_stays b d xs ys s o h

pub returns-clause-cells : goal.returns-clause-cells
returns-clause-cells c = λ b d xs ys k s h. (let more = held_stays b d xs ys s (owner k) h in s.cells k (omega arith))
