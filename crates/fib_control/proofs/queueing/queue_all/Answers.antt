use Rattle.std.proofs.Common.{⊎_elim, ◌≡◌, ℕ, Some, List, subst, sym}
use Rattle.fib_stack_queue.specs.Queues.{rank_in}
use Rattle.fib_entries_rows.specs.Known.{rank_of}
use Rattle.fib_entries_rows.specs.Changes.{AreMoved}
use Rattle.fib_entries_rows.specs.declared.changes.Moved.{Moved}
use Rattle.fib_control.proofs.Queued.{ranked_anew}
use Rattle.fib_control.proofs.queueing.queue_all.Goals as goal

pub returns-clause-ranks : goal.returns-clause-ranks
returns-clause-ranks c = λ old are before d r at. ⊎_elim
    (λ (was : rank_in c.rekey.new.queue.members d ≡ Some r). ranked_anew old c.args.entries.now.rows c.as_slice.result.now d r (rank_in c.args.queue.now.members d)
    (subst (λ (ms : List Moved). AreMoved old c.args.entries.now.rows ms) (sym c.as_slice.ensures) are) (λ n was0. before d n was0) (c.rekey.ensures.ranks d r was))
    (λ (is : r ≡ rank_of c.args.entries.now.rows d). is)
    (c.enqueue.ensures.ranks d r at)
