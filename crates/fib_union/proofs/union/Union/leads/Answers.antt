use Rattle.std.proofs.Common.{arith, ◌≡◌, ◌<◌, ap, length, map}
use Rattle.fib_union.specs.Unions.{Kept}
use Rattle.fib_union.specs.inner.Fields.{plain, ins_of}
use Rattle.fib_union.proofs.Cycling.{cycle_by, no_cycle, as_slices, none_in}
use Rattle.fib_union.proofs.union.Union.leads.Goals as goal

pub returns-clause-leads : goal.returns-clause-leads
returns-clause-leads c = rw (← c.self.view_is) (cycle_by c.self.inside.edges.items (map plain c.self.inside.retired.items) c.self.inside.progress.items c.args.from c.args.to c.if-from-to.false c.reaches.result (as_slices c.reaches.result c.as_slice.result.now c.self.inside.edges.items c.as_slice-2.result.now c.self.inside.retired.items c.args.from c.args.to c.as_slice.ensures.value c.as_slice-2.ensures.value c.reaches.ensures.walk))

pub returns-then-index-eq0-clause-leads : goal.returns-then-index-eq0-clause-leads
returns-then-index-eq0-clause-leads c =
    let v = ap (λ (k : Kept). length k.union.edges) c.self.view_is in
    let lt : c.args.from < length c.self.inside.ins.items = omega (arith, v, c.requires.from_in, c.self.invariant.0.within.size) in
    let none : ins_of c.self.inside.edges.items (map plain c.self.inside.retired.items) c.args.from ≡ 0 = none_in c.self.invariant.0 c.args.from c.index.result.now lt c.index.ensures c.if-index-eq0.true in
    rw (← c.self.view_is) (no_cycle c.self.inside.edges.items (map plain c.self.inside.retired.items) c.self.inside.progress.items c.args.from c.args.to c.if-from-to.false none)
