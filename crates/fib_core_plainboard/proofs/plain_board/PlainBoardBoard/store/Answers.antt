use Rattle.std.proofs.Common.{◌+◌, ◌*◌, sym, subst}
use Rattle.fib_core_board.specs.Boards.{Board}
use Rattle.fib_core_plainboard.proofs.Calls as calls
use Rattle.fib_core_board.specs.May.{MayStore}
use Rattle.fib_core_plainboard.proofs.plain_board.PlainBoardBoard.store.Goals as goal

pub invariant_of-self : goal.invariant_of-self
invariant_of-self c = calls.stored_at _ _ _ _ _ _ c.cell_word.ensures
    (calls.stored c.self.inside.words.items c.self.inside.memory c.self.invariant.0 c.self.inside.objects c.self.inside.workers c.self.inside.passes c.self.invariant.1
    (16 * c.args.object + c.args.slot) c.encode-code.result c.args.word c.put.new.self c.encode-code.ensures.code c.put.ensures
    (subst (λ (p : Board). MayStore p (16 * c.args.object + c.args.slot) c.args.word) (sym c.self.view_is) c.requires.may))
