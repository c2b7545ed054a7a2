use Rattle.std.proofs.Common.{◌≡◌, ◌+◌, ◌<◌, ◌^◌, ap, sym, ◌∙◌, subst, arith}
use Rattle.fib_core_board.specs.Boards.{Board}
use Rattle.fib_core_plainboard.proofs.Keeping as keep
use Rattle.fib_core_plainboard.proofs.Calls as calls
use Rattle.fib_core_results.specs.declared.record.Version.{Version}
use Rattle.fib_core_results.specs.Versions.{unpacked}
use Rattle.fib_core_board.specs.May.{MayBegin}
use Rattle.fib_core_plainboard.proofs.plain_board.PlainBoardBoard.begin_version.Goals as goal
use Rattle.fib_core_lawful.specs.Layout.{version_word}

pub overflow_add-begun : goal.overflow_add-begun
overflow_add-begun c =
    let room = calls.in_words c.self.inside.words.items c.self.inside.memory c.self.invariant.0 c.self.inside.objects c.self.inside.workers c.self.inside.passes c.self.invariant.1 version_word (omega arith) in
    let now : c.decode-version.result ≡ c.self.inside.memory.log.version = c.decode-version.ensures
    ∙ ap unpacked (sym (calls.found c.self.inside.words.items c.version_word-place.result version_word c.index.result.now c.version_word-place.ensures c.index.ensures room))
    ∙ keep.version_now c.self.inside.words.items c.self.inside.memory c.self.invariant.0 in
    let fits : c.decode-version.result.applied + 1 < 2 ^ 32 = subst (λ (v : Version). v.applied + 1 < 2 ^ 32) (sym (now ∙ ap (λ (p : Board). p.log.version) c.self.view_is)) c.requires.room in
    omega arith

pub invariant_of-self : goal.invariant_of-self
invariant_of-self c =
    let room = calls.in_words c.self.inside.words.items c.self.inside.memory c.self.invariant.0 c.self.inside.objects c.self.inside.workers c.self.inside.passes c.self.invariant.1 version_word (omega arith) in
    let now : c.decode-version.result ≡ c.self.inside.memory.log.version = c.decode-version.ensures
    ∙ ap unpacked (sym (calls.found c.self.inside.words.items c.version_word-place.result version_word c.index.result.now c.version_word-place.ensures c.index.ensures room))
    ∙ keep.version_now c.self.inside.words.items c.self.inside.memory c.self.invariant.0 in
    calls.stored_at _ _ _ _ _ _ c.version_word-place.ensures
    (calls.begun c.self.inside.words.items c.self.inside.memory c.self.invariant.0 c.self.inside.objects c.self.inside.workers c.self.inside.passes c.self.invariant.1
    c.args.next.now c.decode-version.result c.encode.result c.begin_version.new.self now c.encode.ensures.code c.begin_version.ensures
    (subst (λ (p : Board). MayBegin p c.args.next.now) (sym c.self.view_is) c.requires))
