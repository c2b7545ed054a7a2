use Rattle.std.proofs.Common.{◌≡◌, ◌<◌, ◌^◌, length, ap, sym, ◌∙◌, subst, refl, arith}
use Rattle.fib_core_board.specs.Boards.{Board}
use Rattle.fib_core_plainboard.specs.Passes.{pass_of}
use Rattle.fib_core_plainboard.proofs.Keeping as keep
use Rattle.fib_core_plainboard.proofs.Calls as calls
use Rattle.std.specs.Prelude.{None, slice_index}
use Rattle.fib_core_results.specs.Versions.{unpacked}
use Rattle.fib_core_lawful.specs.Layout.{version_word, pass_word}
use Rattle.fib_core_lawful.specs.State.{left_of}
use Rattle.fib_core_plainboard.specs.Passes.{IsOnItsWay, pass_begun}
use Rattle.fib_core_plainboard.specs.inner.Sits.{aimed_at, sent_at}
use Rattle.fib_core_plainboard.proofs.plain_board.PlainBoardPasses.begin.Goals as goal

pub overflow_add-index_mut : goal.overflow_add-index_mut
overflow_add-index_mut c =
    let known : c.args.worker < c.self.inside.memory.workers = subst (λ (p : Board). c.args.worker < p.workers) (sym c.self.view_is) c.requires.worker in
    let none : pass_of c.self.inside.memory c.args.worker ≡ None = subst (λ (p : Board). pass_of p c.args.worker ≡ None) (sym c.self.view_is) c.requires.rests in
    let left : 0 < left_of (slice_index c.self.inside.memory.rests c.args.worker) = subst (λ (p : Board). 0 < left_of (slice_index p.rests c.args.worker)) (sym c.self.view_is) c.requires.left in
    let eight = calls.eight c.self.inside.words.items c.self.inside.memory c.self.invariant.0 c.self.inside.objects c.self.inside.workers c.self.inside.passes c.self.invariant.1 c.args.worker 0 0 known none left in
    let room = calls.in_words c.self.inside.words.items c.self.inside.memory c.self.invariant.0 c.self.inside.objects c.self.inside.workers c.self.inside.passes c.self.invariant.1 (pass_word c.args.worker) (omega arith) in
    let word = calls.word_then c.self.inside.words.items c.self.inside.memory c.self.invariant.0 c.self.inside.objects c.self.inside.workers c.self.inside.passes c.self.invariant.1 c.args.worker 0 0 known none left c.index_mut.result.now (calls.found c.self.inside.words.items c.pass_word.result (pass_word c.args.worker) c.index_mut.result.now c.pass_word.ensures c.index_mut.ensures.value room) in
    let first = calls.first_room c.self.inside.words.items c.self.inside.memory c.self.invariant.0 c.self.inside.objects c.self.inside.workers c.self.inside.passes c.self.invariant.1 c.args.worker 0 0 known none left in
    omega arith

pub invariant_of-self : goal.invariant_of-self
invariant_of-self c =
    let known : c.args.worker < c.self.inside.memory.workers = subst (λ (p : Board). c.args.worker < p.workers) (sym c.self.view_is) c.requires.worker in
    let none : pass_of c.self.inside.memory c.args.worker ≡ None = subst (λ (p : Board). pass_of p c.args.worker ≡ None) (sym c.self.view_is) c.requires.rests in
    let left : 0 < left_of (slice_index c.self.inside.memory.rests c.args.worker) = subst (λ (p : Board). 0 < left_of (slice_index p.rests c.args.worker)) (sym c.self.view_is) c.requires.left in
    let eight = calls.eight c.self.inside.words.items c.self.inside.memory c.self.invariant.0 c.self.inside.objects c.self.inside.workers c.self.inside.passes c.self.invariant.1 c.args.worker 0 0 known none left in
    let room = calls.in_words c.self.inside.words.items c.self.inside.memory c.self.invariant.0 c.self.inside.objects c.self.inside.workers c.self.inside.passes c.self.invariant.1 (pass_word c.args.worker) (omega arith) in
    let top = calls.in_words c.self.inside.words.items c.self.inside.memory c.self.invariant.0 c.self.inside.objects c.self.inside.workers c.self.inside.passes c.self.invariant.1 version_word (omega arith) in
    let small = c.bits_of.type_inv in
    let same = c.bits_of.ensures in
    let hash = c.ranges.hash.fits in
    calls.stored_at _ _ _ _ _ _ c.pass_word.ensures
    (calls.begins_kept c.self.inside.words.items c.self.inside.memory c.self.invariant.0 c.self.inside.objects c.self.inside.workers c.self.inside.passes c.self.invariant.1 c.args.worker c.args.addr c.args.hash known none left
    c.index_mut.result.now (record { addr = c.args.addr; hash = c.args.hash; lo = c.decode-lo.result; stage = c.first.result }) c.aim.new.self
    (calls.found c.self.inside.words.items c.pass_word.result (pass_word c.args.worker) c.index_mut.result.now c.pass_word.ensures c.index_mut.ensures.value room)
    (c.aim.ensures ∙ ap (λ (p : Board). aimed_at p c.args.worker c.args.hash) (c.send.ensures ∙ ap (λ a. sent_at c.self.inside.memory c.args.worker a) same))
    (subst (λ a. a < 2 ^ 32) same small, hash) refl refl
    (c.decode-lo.ensures ∙ ap unpacked (sym (calls.found c.self.inside.words.items c.version_word.result version_word c.index.result.now c.version_word.ensures c.index.ensures top)) ∙ keep.version_now c.self.inside.words.items c.self.inside.memory c.self.invariant.0)
    (c.first.ensures c.args.hash))

pub returns-clause-pass : goal.returns-clause-pass
returns-clause-pass c =
    let known : c.args.worker < c.self.inside.memory.workers = subst (λ (p : Board). c.args.worker < p.workers) (sym c.self.view_is) c.requires.worker in
    let eight = c.self.invariant.0.limits.eight in
    let long = c.self.invariant.0.long in
    c.aim.ensures ∙ ap (λ (p : Board). aimed_at p c.args.worker c.args.hash) (c.send.ensures ∙ ap (λ a. sent_at c.self.inside.memory c.args.worker a) c.bits_of.ensures)
    ∙ calls.begun_is c.self.inside.memory c.args.worker c.args.addr c.args.hash (omega arith)
    ∙ ap (λ (p : Board). pass_begun p c.args.worker c.args.addr c.args.hash) c.self.view_is

pub returns-clause-on : goal.returns-clause-on
returns-clause-on c =
    let known : c.args.worker < c.self.inside.memory.workers = subst (λ (p : Board). c.args.worker < p.workers) (sym c.self.view_is) c.requires.worker in
    let eight = c.self.invariant.0.limits.eight in
    let long : length c.self.inside.memory.passes ≡ 8 = c.self.invariant.0.long in
    let here : c.args.worker < length c.args.self.now.passes = subst (λ (p : Board). c.args.worker < length p.passes) c.self.view_is (omega arith) in
    subst (λ (p : Board). IsOnItsWay p c.args.worker) (sym (returns-clause-pass c)) (calls.begun_on c.args.self.now c.args.worker c.args.addr c.args.hash here)
