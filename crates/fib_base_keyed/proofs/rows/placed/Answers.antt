use Rattle.std.proofs.Common.{sym}
use Rattle.fib_base_keyed.proofs.Keys.{place_is}
use Rattle.fib_base_keyed.proofs.rows.placed.Goals as goal

pub returns-then-eq : goal.returns-then-eq
returns-then-eq g c = place_is g.K.PartialEq.eq g.met.K.Eq.laws c.args.rows.now c.args.key c.in-Ok.place c.index.result.now c.requires c.in-Ok.ensures.bound c.index.ensures (sym c.if-eq.ensures)
