use Rattle.std.proofs.Common.{◌≡◌, ◌<◌, false, ap, sym, ◌∙◌, subst, arith}
use Rattle.std.specs.Prelude.{Bool, IsTrue, None, is_some, slice_index_or}
use Rattle.std.proofs.lemmas.List.{get_or_default}
use Rattle.fib_core_board.specs.Boards.{Board}
use Rattle.fib_core_plainboard.specs.Passes.{IsRunning}
use Rattle.fib_core_plainboard.proofs.Calls as calls
use Rattle.fib_core_plainboard.proofs.plain_board.PlainBoardPasses.running.Goals as goal

result_is : (c : goal.After-is_some) → c.is_some.result ≡ is_some (slice_index_or c.self.inside.passes c.args.worker None)
result_is c =
    let lt = subst (λ (p : Board). c.args.worker < p.workers) (sym c.self.view_is) c.requires in
    let eight = c.self.invariant.0.limits.eight in
    let long = c.self.told in
    c.is_some.ensures ∙ ap is_some (get_or_default c.self.inside.passes c.args.worker c.index-self-worker.result None (omega arith))

pub returns-clause-running : goal.returns-clause-running
returns-clause-running c = subst (λ (x : Bool × Board). (IsTrue x.0 → IsRunning x.1 c.args.worker) × (IsRunning x.1 c.args.worker → IsTrue x.0)) (λ i. (sym (result_is c) i, c.self.view_is i))
    (calls.runs_iff c.self.inside.words.items c.self.inside.memory c.self.invariant.0 c.self.inside.objects c.self.inside.workers c.self.inside.passes c.self.invariant.1 c.args.worker)

pub returns-clause-out : goal.returns-clause-out
returns-clause-out c = ap (λ (p : Board). slice_index_or p.out c.args.worker false) (sym c.self.view_is)
    ∙ calls.runs_out c.self.inside.words.items c.self.inside.memory c.self.invariant.0 c.self.inside.objects c.self.inside.workers c.self.inside.passes c.self.invariant.1 c.args.worker ∙ sym (result_is c)
