use Rattle.std.proofs.Common.{ap, sym, ◌∙◌, subst, arith}
use Rattle.fib_core_board.specs.Boards.{Board}
use Rattle.fib_core_plainboard.proofs.Keeping as keep
use Rattle.fib_core_plainboard.proofs.Calls as calls
use Rattle.fib_core_results.specs.Versions.{unpacked}
use Rattle.fib_core_board.specs.May.{MaySettle}
use Rattle.fib_core_plainboard.proofs.plain_board.PlainBoardBoard.settle_version.Goals as goal
use Rattle.fib_core_lawful.specs.Layout.{version_word}

pub invariant_of-self : goal.invariant_of-self
invariant_of-self c =
    let room = calls.in_words c.self.inside.words.items c.self.inside.memory c.self.invariant.0 c.self.inside.objects c.self.inside.workers c.self.inside.passes c.self.invariant.1 version_word (omega arith) in
    calls.stored_at _ _ _ _ _ _ c.version_word-place.ensures
    (calls.settled c.self.inside.words.items c.self.inside.memory c.self.invariant.0 c.self.inside.objects c.self.inside.workers c.self.inside.passes c.self.invariant.1
    c.decode-version.result c.settled_at.result c.encode.result c.settle_version.new.self
    (c.decode-version.ensures ∙ ap unpacked (sym (calls.found c.self.inside.words.items c.version_word-place.result version_word c.index.result.now c.version_word-place.ensures c.index.ensures room)) ∙ keep.version_now c.self.inside.words.items c.self.inside.memory c.self.invariant.0)
    c.settled_at.ensures c.encode.ensures.code c.settle_version.ensures
    (subst (λ (p : Board). MaySettle p) (sym c.self.view_is) c.requires))
