use Rattle.std.proofs.Common.{ℕ, ◌∙◌, ap, List, ◌++◌, map}
use Rattle.fib_resolve_pairs.specs.inner.Edges.{next_numbers}
use Rattle.fib_resolve_pairs.proofs.Cycles.{edges_more, edges_whole}
use Rattle.fib_resolve_pairs.proofs.loops.edges.Goals as goal

pub loop-i-preserved : goal.loop-i-preserved
loop-i-preserved c =
    let f = next_numbers c.args.known.now in
    c.in_ok-add_row.ensures
    ∙ (ap (λ (es : List (ℕ × ℕ)). es ++ map (λ to. (c.loop-i.i, to)) (f c.e-item.result)) c.loop-i.invariant
    ∙ edges_more f c.entries-e-items.result.now c.loop-i.i c.e-item.result c.loop-i-test.true c.e-item.is)

pub returns : goal.returns
returns c = edges_whole c.args.known.now c.entries-e-items.result.now c.loop-i.out.items c.loop-i.i c.entries-e-items.ensures.entries c.loop-i-test.false c.loop-i.invariant
