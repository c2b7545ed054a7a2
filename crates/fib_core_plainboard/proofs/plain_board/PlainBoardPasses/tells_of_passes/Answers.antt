use Rattle.std.proofs.Common.{◌≡◌, sym, subst}
use Rattle.std.specs.Prelude.{Some}
use Rattle.fib_core_board.specs.Boards.{Board}
use Rattle.fib_core_plainboard.specs.Passes.{IsAlong, pass_of}
use Rattle.fib_core_plainboard.proofs.Passing.{along}
use Rattle.fib_core_plainboard.proofs.plain_board.PlainBoardPasses.tells_of_passes.Goals as goal

pub returns : goal.returns
returns c = λ n q runs. subst (λ (p : Board). IsAlong p q.loads) c.self.view_is
    (along c.self.inside.words.items c.self.inside.memory c.self.invariant.0 n q (subst (λ (p : Board). pass_of p n ≡ Some q) (sym c.self.view_is) runs))
