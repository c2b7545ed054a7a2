use Rattle.std.proofs.Common.{arith, ap, sym, subst}
use Rattle.fib_core_board.specs.Crews.{Seated}
use Rattle.fib_core_rule.specs.May.{MayDraw}
use Rattle.fib_cells.proofs.Moves.{may_draw}
use Rattle.fib_cells.proofs.seats.WorkerSeat.claim.Goals as goal

pub fetch_add-drawn-requires : goal.fetch_add-drawn-requires
fetch_add-drawn-requires c =
    let seat = c.self.invariant.1.seat in (
      c.self.invariant.0,
      (let size = seat.size in let same = ap (λ t. t.words) c.self.invariant.0 in let is = c.claim_word.ensures in omega arith),
      may_draw _ _ _ _ _ seat.sat (subst (λ (s : Seated). MayDraw s.worker) (sym c.self.view_is) c.requires) c.claim_word.ensures,
    )
