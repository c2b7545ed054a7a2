use Rattle.std.proofs.Common.{arith, vec_capacity, length, refl}
use Rattle.fib_reach.proofs.Visits.{visit_start}
use Rattle.fib_reach.proofs.visit.start.Goals as goal

pub note-requires-clause-visit : goal.note-requires-clause-visit
note-requires-clause-visit c =
    let marks = c.next_visit-visit.new.marks in
    visit_start (length marks) (vec_capacity c.clear.new.self) c.next_visit-visit.result marks c.clear.new.self.items refl (omega (arith, c.requires.room, c.next_visit-visit.ensures.len, c.clear.ensures.capacity)) c.next_visit-visit.ensures.fresh c.clear.ensures.items
