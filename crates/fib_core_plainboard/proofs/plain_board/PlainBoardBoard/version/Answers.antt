use Rattle.std.proofs.Common.{ap, sym, ◌∙◌, arith}
use Rattle.fib_core_board.specs.Boards.{Board}
use Rattle.fib_core_plainboard.proofs.Keeping as keep
use Rattle.fib_core_plainboard.proofs.Calls as calls
use Rattle.fib_core_results.specs.Versions.{unpacked}
use Rattle.fib_core_plainboard.proofs.plain_board.PlainBoardBoard.version.Goals as goal
use Rattle.fib_core_lawful.specs.Layout.{version_word}

pub returns : goal.returns
returns c =
    let room = calls.in_words c.self.inside.words.items c.self.inside.memory c.self.invariant.0 c.self.inside.objects c.self.inside.workers c.self.inside.passes c.self.invariant.1 version_word (omega arith) in
    c.decode.ensures ∙ ap unpacked (sym (calls.found c.self.inside.words.items c.version_word.result version_word c.index.result.now c.version_word.ensures c.index.ensures room))
    ∙ keep.version_now c.self.inside.words.items c.self.inside.memory c.self.invariant.0 ∙ ap (λ (p : Board). p.log.version) c.self.view_is
