use Rattle.std.proofs.Common.{◌≡◌, ◌<◌, false, sym, subst, arith}
use Rattle.std.specs.Prelude.{slice_index_or}
use Rattle.fib_core_board.specs.Boards.{Board}
use Rattle.fib_core_plainboard.proofs.Calls as calls
use Rattle.fib_core_plainboard.proofs.plain_board.PlainBoardBoard.scan.Goals as goal
use Rattle.fib_core_lawful.specs.Layout.{pass_word}

pub invariant_of-self : goal.invariant_of-self
invariant_of-self c =
    let lt : c.args.worker < c.self.inside.memory.workers = subst (λ (p : Board). c.args.worker < p.workers) (sym c.self.view_is) c.requires in
    let eight = c.self.invariant.0.limits.eight in
    let room = calls.in_words c.self.inside.words.items c.self.inside.memory c.self.invariant.0 c.self.inside.objects c.self.inside.workers c.self.inside.passes c.self.invariant.1 (pass_word c.args.worker) (omega arith) in
    calls.looked c.self.inside.words.items c.self.inside.memory c.self.invariant.0 c.self.inside.objects c.self.inside.workers c.self.inside.passes c.self.invariant.1
    c.args.worker c.index-word.result.now c.look.new.self (calls.found c.self.inside.words.items c.pass_word.result (pass_word c.args.worker) c.index-word.result.now c.pass_word.ensures c.index-word.ensures room) c.look.ensures

pub returns-clause-rests : goal.returns-clause-rests
returns-clause-rests c = λ home.
    let lt : c.args.worker < c.self.inside.memory.workers = subst (λ (p : Board). c.args.worker < p.workers) (sym c.self.view_is) c.requires in
    let eight = c.self.invariant.0.limits.eight in
    let room = calls.in_words c.self.inside.words.items c.self.inside.memory c.self.invariant.0 c.self.inside.objects c.self.inside.workers c.self.inside.passes c.self.invariant.1 (pass_word c.args.worker) (omega arith) in
    calls.rests_even c.self.inside.words.items c.self.inside.memory c.self.invariant.0 c.self.inside.objects c.self.inside.workers c.self.inside.passes c.self.invariant.1 c.args.worker c.index-word.result.now (omega arith)
    (subst (λ (p : Board). slice_index_or p.out c.args.worker false ≡ false) (sym c.self.view_is) home)
    (calls.found c.self.inside.words.items c.pass_word.result (pass_word c.args.worker) c.index-word.result.now c.pass_word.ensures c.index-word.ensures room)
