use Rattle.std.proofs.Common.{arith, ◌≡◌, subst, ℕ, length}
use Rattle.std.specs.Prelude.{IfOk}
use Rattle.std.proofs.lemmas.Result.{IfOk-weaker}
use Rattle.fib_resolve_pairs.specs.inner.Edges.{AreMarked, AreLooped}
use Rattle.fib_resolve_pairs.proofs.Cycles.{looped_marked}
use Rattle.fib_resolve_pairs.proofs.loops.on_cycles.Goals as goal

pub returns : goal.returns
returns c =
    let edges = c.args.edges.now in
    let m = c.in_ok-marks.marks in
    let all : c.in-Ok.count ≡ length edges = omega (arith, c.in-Ok.ensures) in
    IfOk-weaker c.marked.result (λ s. AreMarked edges m.looped (length edges) s.keys) (λ s. AreLooped edges s.keys) (λ s. looped_marked c.args.nodes edges s.keys m c.in_ok-marks.ensures) (subst (λ (n : ℕ). IfOk c.marked.result (λ s. AreMarked edges m.looped n s.keys)) all c.marked.ensures)
