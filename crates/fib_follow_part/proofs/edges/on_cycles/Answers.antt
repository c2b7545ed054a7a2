use Rattle.std.proofs.Common.{arith, ◌≡◌, subst, length}
use Rattle.std.specs.Prelude.{IfOk}
use Rattle.std.proofs.lemmas.Result.{IfOk-weaker}
use Rattle.fib_entries_rows.specs.inner.Looping.{AreLoopedEnds, AreMarkedEnds}
use Rattle.fib_entries_rows.proofs.Loopings.{looped_ends}
use Rattle.fib_follow_part.proofs.edges.on_cycles.Goals as goal

pub returns : goal.returns
returns c =
    let edges = c.args.edges.now in
    let order = c.args.order.now in
    let m = c.args.marks.now in
    let all : c.in-Ok.count ≡ length edges = omega (arith, c.in-Ok.ensures) in
    IfOk-weaker c.marked.result (λ s. AreMarkedEnds order edges m.looped (length edges) s.keys) (λ s. AreLoopedEnds order edges s.keys)
    (λ s. looped_ends (length order) order edges m s.keys c.requires.marks)
    (subst (λ n. IfOk c.marked.result (λ s. AreMarkedEnds order edges m.looped n s.keys)) all c.marked.ensures)
