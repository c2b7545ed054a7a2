use Rattle.std.proofs.Common.{◌+◌, ◌*◌, ◌<◌, ap, sym, ◌∙◌, subst, arith}
use Rattle.fib_core_board.specs.Boards.{Board}
use Rattle.fib_core_plainboard.proofs.Keeping as keep
use Rattle.std.specs.Prelude.{slice_index}
use Rattle.fib_core.specs.Words.{decoded}
use Rattle.fib_core_plainboard.proofs.plain_board.PlainBoardBoard.load.Goals as goal

pub word_at-requires-clause-word : goal.word_at-requires-clause-word
word_at-requires-clause-word c =
    let lt : c.args.object < c.self.inside.memory.objects = subst (λ (p : Board). c.args.object < p.objects) (sym c.self.view_is) c.requires.object in
    let low = c.requires.slot in
    keep.word_now c.self.inside.words.items c.self.inside.memory c.self.invariant.0 (16 * c.args.object + c.args.slot) (omega arith)

pub returns : goal.returns
returns c =
    let lt : c.args.object < c.self.inside.memory.objects = subst (λ (p : Board). c.args.object < p.objects) (sym c.self.view_is) c.requires.object in
    let low = c.requires.slot in
    c.word_at.ensures ∙ ap decoded (keep.cell_now c.self.inside.words.items c.self.inside.memory c.self.invariant.0 (16 * c.args.object + c.args.slot) (omega arith))
    ∙ ap (λ (p : Board). decoded (slice_index p.union.cells (16 * c.args.object + c.args.slot))) c.self.view_is
