use Rattle.std.proofs.Common.{ap, ◌∙◌}
use Rattle.fib_cells.proofs.Sittings.{fresh_lives, same_table}
use Rattle.fib_cells.proofs.board.LiveBoard.new.Goals as goal

pub invariant_of-result : goal.invariant_of-result
invariant_of-result c =
    let seat = c.seat.invariant in (
      same_table _ _ (ap (λ p. p.id) c.seat.view_is ∙ c.requires),
      fresh_lives _ _ _ _ _ _ seat.0 seat.1 seat.2 seat.3 c.settled_at.ensures,
    )
