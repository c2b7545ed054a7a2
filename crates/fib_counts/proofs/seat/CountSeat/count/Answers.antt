use Rattle.std.proofs.Common.{ap, arith, length}
use Rattle.fib_counts.proofs.Moves.{may_add}
use Rattle.fib_counts.proofs.seat.CountSeat.count.Goals as goal

pub fetch_add-requires : goal.fetch_add-requires
fetch_add-requires c =
    let inv = c.self.invariant in (
      inv.0,
      (let size = inv.1 in let same = ap (λ t. t.words) inv.0 in let lt = c.requires.inside in let is = c.word_for-word.ensures in omega arith),
      may_add _ _ _ _ inv.2 (let lt = c.requires.inside in let is = c.word_for-word.ensures in omega arith) (let long = inv.5 in let few = c.requires.left in let v = ap (λ s. length s.tally.words) c.self.view_is in omega arith),
    )
