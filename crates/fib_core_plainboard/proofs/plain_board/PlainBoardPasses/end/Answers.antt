use Rattle.std.proofs.Common.{◌≡◌, ap, sym, ◌∙◌, subst, arith}
use Rattle.fib_core_board.specs.Boards.{Board, Pass}
use Rattle.fib_core_plainboard.specs.Passes.{pass_of}
use Rattle.fib_core_plainboard.proofs.Keeping as keep
use Rattle.fib_core_plainboard.proofs.Calls as calls
use Rattle.std.specs.Prelude.{Some}
use Rattle.fib_core_results.specs.Steady.{IsSteady}
use Rattle.fib_core_results.specs.Trails.{IsRecordOk}
use Rattle.fib_core_results.specs.Versions.{unpacked}
use Rattle.fib_core_plainboard.specs.Passes.{HasEnd, answer_of}
use Rattle.fib_core_plainboard.proofs.Passing.{inside, some_is}
use Rattle.fib_core_plainboard.proofs.Ending.{answer_right, answer_steady}
use Rattle.fib_core_plainboard.proofs.plain_board.PlainBoardPasses.end.Goals as goal
use Rattle.fib_core_lawful.specs.Layout.{version_word, pass_word}

pub overflow_add-index_mut : goal.overflow_add-index_mut
overflow_add-index_mut c =
    let had : HasEnd c.self.inside.memory c.args.worker c.requires.0 = subst (λ (p : Board). HasEnd p c.args.worker c.requires.0) (sym c.self.view_is) c.requires.1 in
    let lt = inside c.self.inside.memory.passes c.args.worker had.0 had.1 in
    let long = c.self.invariant.0.long in
    let room = calls.in_words c.self.inside.words.items c.self.inside.memory c.self.invariant.0 c.self.inside.objects c.self.inside.workers c.self.inside.passes c.self.invariant.1 (pass_word c.args.worker) (omega arith) in
    let fits = calls.end_room c.self.inside.words.items c.self.inside.memory c.self.invariant.0 c.self.inside.objects c.self.inside.workers c.self.inside.passes c.self.invariant.1 c.args.worker had.0 had.1 c.running_pass-pass.result c.running_pass-pass.ensures c.requires.0 had.2
    c.index_mut.result.now (calls.found c.self.inside.words.items c.pass_word.result (pass_word c.args.worker) c.index_mut.result.now c.pass_word.ensures c.index_mut.ensures.value room) in
    omega arith

pub invariant_of-self : goal.invariant_of-self
invariant_of-self c =
    let had : HasEnd c.self.inside.memory c.args.worker c.requires.0 = subst (λ (p : Board). HasEnd p c.args.worker c.requires.0) (sym c.self.view_is) c.requires.1 in
    let lt = inside c.self.inside.memory.passes c.args.worker had.0 had.1 in
    let long = c.self.invariant.0.long in
    let room = calls.in_words c.self.inside.words.items c.self.inside.memory c.self.invariant.0 c.self.inside.objects c.self.inside.workers c.self.inside.passes c.self.invariant.1 (pass_word c.args.worker) (omega arith) in
    calls.stored_at _ _ _ _ _ _ c.pass_word.ensures
    (calls.end_kept c.self.inside.words.items c.self.inside.memory c.self.invariant.0 c.self.inside.objects c.self.inside.workers c.self.inside.passes c.self.invariant.1 c.args.worker had.0 had.1 c.running_pass-pass.result c.running_pass-pass.ensures c.requires.0 had.2
    c.index_mut.result.now c.end.new.self (calls.found c.self.inside.words.items c.pass_word.result (pass_word c.args.worker) c.index_mut.result.now c.pass_word.ensures c.index_mut.ensures.value room) c.end.ensures)

answers : (c : goal.After-ended) → (q : Pass) → pass_of c.self.inside.memory c.args.worker ≡ Some q
    → record { addr = c.running_pass-pass.result.addr; hash = c.running_pass-pass.result.hash; lo = c.running_pass-pass.result.lo; hi = c.decode-hi.result; end = c.ended.result }
    ≡ answer_of q c.self.inside.memory.log.version
answers c q runs =
    let had : HasEnd c.self.inside.memory c.args.worker c.requires.0 = subst (λ (p : Board). HasEnd p c.args.worker c.requires.0) (sym c.self.view_is) c.requires.1 in
    let one : had.0 ≡ q = some_is had.0 q (sym had.1 ∙ runs) in
    let top = calls.in_words c.self.inside.words.items c.self.inside.memory c.self.invariant.0 c.self.inside.objects c.self.inside.workers c.self.inside.passes c.self.invariant.1 version_word (omega arith) in
    calls.answer_is c.self.inside.words.items c.self.inside.memory c.self.invariant.0 c.self.inside.objects c.self.inside.workers c.self.inside.passes c.self.invariant.1 c.args.worker had.0 had.1 c.running_pass-pass.result c.running_pass-pass.ensures c.requires.0 had.2
    c.decode-hi.result c.ended.result
    (c.decode-hi.ensures ∙ ap unpacked (sym (calls.found c.self.inside.words.items c.version_word.result version_word c.index.result.now c.version_word.ensures c.index.ensures top)) ∙ keep.version_now c.self.inside.words.items c.self.inside.memory c.self.invariant.0)
    c.ended.ensures
    ∙ ap (λ (r : Pass). answer_of r c.self.inside.memory.log.version) one

pub returns-clause-answer : goal.returns-clause-answer
returns-clause-answer c = λ q runs. answers c q (subst (λ (p : Board). pass_of p c.args.worker ≡ Some q) (sym c.self.view_is) runs)
    ∙ ap (λ (p : Board). answer_of q p.log.version) c.self.view_is

pub returns-clause-right : goal.returns-clause-right
returns-clause-right c =
    let had : HasEnd c.self.inside.memory c.args.worker c.requires.0 = subst (λ (p : Board). HasEnd p c.args.worker c.requires.0) (sym c.self.view_is) c.requires.1 in
    subst (λ (p : Board). IsRecordOk p.log.history (record { addr = c.running_pass-pass.result.addr; hash = c.running_pass-pass.result.hash; lo = c.running_pass-pass.result.lo; hi = c.decode-hi.result; end = c.ended.result })) c.self.view_is
    (subst (IsRecordOk c.self.inside.memory.log.history) (sym (answers c had.0 had.1))
    (answer_right c.self.inside.words.items c.self.inside.memory c.self.invariant.0 c.args.worker had.0 had.1 c.requires.0 had.2))

pub returns-clause-steady : goal.returns-clause-steady
returns-clause-steady c =
    let had : HasEnd c.self.inside.memory c.args.worker c.requires.0 = subst (λ (p : Board). HasEnd p c.args.worker c.requires.0) (sym c.self.view_is) c.requires.1 in
    subst (λ (p : Board). IsSteady p.log.history (record { addr = c.running_pass-pass.result.addr; hash = c.running_pass-pass.result.hash; lo = c.running_pass-pass.result.lo; hi = c.decode-hi.result; end = c.ended.result })) c.self.view_is
    (subst (IsSteady c.self.inside.memory.log.history) (sym (answers c had.0 had.1))
    (answer_steady c.self.inside.words.items c.self.inside.memory c.self.invariant.0 c.args.worker had.0 had.1 c.requires.0 had.2))
