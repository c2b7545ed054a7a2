use Rattle.std.proofs.Common.{◌≡◌, ℕ, ◌+◌, ◌*◌, ◌/◌, ◌%◌, sym, ◌∙◌, subst, arith}
use Rattle.fib_core.specs.declared.word.Word.{Word}
use Rattle.fib_core_board.specs.Boards.{board_stored}
use Rattle.fib_core_board.specs.May.{MayStore}
use Rattle.trial_filling.proofs.Fills.{may_fill, stored_then}
use Rattle.trial_filling.proofs.filling.store_one.Goals as goal

whole : (k : ℕ) → 16 * (k / 16) + k % 16 ≡ k
whole k = omega arith

pub store-requires-clause-may : goal.store-requires-clause-may
store-requires-clause-may g c =
    let cell = whole c.cell-cell.result ∙ c.cell-cell.ensures in
    let word = c.word.ensures in
    subst (λ (x : ℕ × Word). MayStore (g.B.Board.view c.args.board.now) x.0 x.1) (λ i. (sym cell i, sym word i)) (may_fill c.args.store c.requires.0 (g.B.Board.view c.args.board.now) c.requires.1)

pub returns-clause-filling : goal.returns-clause-filling
returns-clause-filling g c =
    let cell = whole c.cell-cell.result ∙ c.cell-cell.ensures in
    let word = c.word.ensures in
    stored_then c.args.store c.requires.0 (g.B.Board.view c.args.board.now) (g.B.Board.view c.store.new.self) c.requires.1
    (c.store.ensures ∙ (λ i. board_stored (g.B.Board.view c.args.board.now) (cell i) (word i)))
