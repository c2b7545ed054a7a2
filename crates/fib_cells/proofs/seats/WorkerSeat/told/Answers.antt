use Rattle.std.proofs.Common.{arith, ap, sym, ◌∙◌}
use Rattle.fib_cells.proofs.Moves.{may_tell}
use Rattle.fib_cells.proofs.Sittings.{same_table}
use Rattle.fib_cells.proofs.seats.WorkerSeat.told.Goals as goal

pub join_seat-requires : goal.join_seat-requires
join_seat-requires c =
    let seat = c.self.invariant.1.seat in (
      c.self.invariant.0,
      same_table _ _ (ap (λ s. s.id) c.note.view_is ∙ c.requires ∙ sym (ap (λ s. s.id) c.self.view_is)) ∙ c.self.invariant.0,
      ap (λ m. m.1) c.note.invariant.0,
      (let size = seat.size in let same = ap (λ t. t.words) c.self.invariant.0 in omega arith),
      may_tell _ 0 _ _ _ _ seat.sat c.note.invariant.0,
    )
