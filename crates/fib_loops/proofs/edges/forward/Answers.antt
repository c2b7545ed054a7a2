use Rattle.std.proofs.Common.{ℕ, List, take, get_or, sym, subst}
use Rattle.std.proofs.lemmas.List.{take_more, take_all}
use Rattle.fib_reach.specs.Graphs.{with_edge}
use Rattle.fib_loops.specs.inner.Entering.{Joins}
use Rattle.fib_loops.proofs.Joined.{joins_more}
use Rattle.fib_loops.proofs.edges.forward.Goals as goal

pub loop-from-preserved : goal.loop-from-preserved
loop-from-preserved c =
    let i = c.loop-from.from-index in
    let edges : List (ℕ × ℕ) = c.args.edges.now in
    let e : ℕ × ℕ = get_or edges i (0, 0) in
    let inside = c.requires i (0, 0) c.loop-from-test.true in
    let more = joins_more c.loop-from.graph c.args.nodes (take i edges) e inside.0 c.loop-from.invariant in
    rw c.in_ok-add.ensures.ok (subst (λ (l : List (ℕ × ℕ)). Joins (with_edge c.loop-from.graph e.0 e.1) c.args.nodes l) (sym (take_more edges i (0, 0) c.loop-from-test.true)) more)

pub returns : goal.returns
returns c =
    subst (λ (l : List (ℕ × ℕ)). Joins c.loop-from.graph c.args.nodes l) (take_all c.loop-from.from-index c.args.edges.now c.loop-from-test.false) c.loop-from.invariant
