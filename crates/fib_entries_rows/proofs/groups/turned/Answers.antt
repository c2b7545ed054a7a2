use Rattle.std.proofs.Common.{arith, ℕ, List, take, get_or, sym, subst}
use Rattle.std.proofs.lemmas.List.{take_more, take_all}
use Rattle.fib_reach.specs.Graphs.{with_edge}
use Rattle.fib_entries_rows.specs.inner.Edges.{IsTurned}
use Rattle.fib_entries_rows.proofs.Grouping.{turned_none, turned_more}
use Rattle.fib_entries_rows.proofs.groups.turned.Goals as goal

pub add-requires-clause-from_in : goal.add-requires-clause-from_in
add-requires-clause-from_in c =
    let inside = (c.requires c.loop-from.from-index (0, 0) c.loop-from-test.true).1 in
    omega (arith, c.loop-from.invariant.size, inside)

pub add-requires-clause-to_in : goal.add-requires-clause-to_in
add-requires-clause-to_in c =
    let inside = (c.requires c.loop-from.from-index (0, 0) c.loop-from-test.true).0 in
    omega (arith, c.loop-from.invariant.size, inside)

pub loop-from-preserved : goal.loop-from-preserved
loop-from-preserved c =
    let i = c.loop-from.from-index in
    let edges : List (ℕ × ℕ) = c.args.edges.now in
    let e : ℕ × ℕ = get_or edges i (0, 0) in
    let inside = c.requires i (0, 0) c.loop-from-test.true in
    let more = turned_more c.args.nodes (take i edges) c.loop-from.graph e inside.1 c.loop-from.invariant in
    rw c.in_ok-add.ensures.ok (subst (λ (l : List (ℕ × ℕ)). IsTurned c.args.nodes l (with_edge c.loop-from.graph e.1 e.0)) (sym (take_more edges i (0, 0) c.loop-from-test.true)) more)

pub loop-from-init : goal.loop-from-init
loop-from-init c = turned_none c.args.nodes c.in_ok-graph.graph c.in_ok-graph.ensures

pub returns : goal.returns
returns c =
    subst (λ (l : List (ℕ × ℕ)). IsTurned c.args.nodes l c.loop-from.graph) (take_all c.loop-from.from-index c.args.edges.now c.loop-from-test.false) c.loop-from.invariant
