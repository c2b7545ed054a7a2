use Rattle.std.proofs.Common.{arith, ◌<◌, ap, length}
use Rattle.fib_union.specs.Unions.{Kept}
use Rattle.fib_union.proofs.Views.{has_in_is}
use Rattle.fib_union.proofs.union.Union.has_in.Goals as goal

pub returns : goal.returns
returns c =
    let e = ap (λ (v : Kept). length v.union.edges) c.self.view_is in
    let lt : c.args.object < length c.self.inside.ins.items = omega (arith, e, c.self.invariant.0.within.size, c.requires) in
    rw (← c.self.view_is) (has_in_is c.self.invariant.0 c.args.object c.index.result.now lt c.index.ensures)
