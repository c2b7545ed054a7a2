use Rattle.std.proofs.Common.{◌<◌, ap, sym, ◌∙◌, subst, arith}
use Rattle.fib_core_board.specs.Boards.{Board}
use Rattle.fib_core_plainboard.proofs.Calls as calls
use Rattle.std.specs.Prelude.{slice_index}
use Rattle.fib_core_lawful.specs.Layout.{pass_word}
use Rattle.fib_core_lawful.specs.State.{left_of}
use Rattle.fib_core_plainboard.proofs.plain_board.PlainBoardBoard.passes_left.Goals as goal

pub returns : goal.returns
returns c =
    let lt : c.args.worker < c.self.inside.memory.workers = subst (λ (p : Board). c.args.worker < p.workers) (sym c.self.view_is) c.requires in
    let eight = c.self.invariant.0.limits.eight in
    let room = calls.in_words c.self.inside.words.items c.self.inside.memory c.self.invariant.0 c.self.inside.objects c.self.inside.workers c.self.inside.passes c.self.invariant.1 (pass_word c.args.worker) (omega arith) in
    c.passes_left.ensures ∙ ap left_of (sym (calls.found c.self.inside.words.items c.pass_word.result (pass_word c.args.worker) c.index.result.now c.pass_word.ensures c.index.ensures room))
    ∙ calls.left_now c.self.inside.words.items c.self.inside.memory c.self.invariant.0 c.self.inside.objects c.self.inside.workers c.self.inside.passes c.self.invariant.1 c.args.worker (omega arith)
    ∙ ap (λ (p : Board). left_of (slice_index p.rests c.args.worker)) c.self.view_is
