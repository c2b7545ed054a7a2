use Rattle.std.proofs.Common.{◌≡◌, ◌≤◌, ◌+◌, ◌||◌, ℕ, length, take}
use Rattle.std.specs.Prelude.{Some, ◌⊎◌}
use Rattle.fib_addr.specs.Prefixes.{Prefix}
use Rattle.fib_stack_queue.specs.Queues.{rank_in}
use Rattle.std.specs.Prelude.{is_some}
use Rattle.fib_stack_waking.specs.Waking.{are_among, have_ranks}
use Rattle.fib_stack_waking.proofs.queueing.wake_all.Given as goal

abbrev pub invariant-loop-next : goal.invariant-loop-next
invariant-loop-next l = record {
  queued : (d : Prefix) → is_some (rank_in l.queue.members d) ≡ is_some (rank_in l.initial.queue.members d) || are_among (take l.next-index l.woken) d;
  ranks : (rank : Prefix → ℕ) → have_ranks rank l.woken → (d : Prefix) (r : ℕ) → rank_in l.queue.members d ≡ Some r → (rank_in l.initial.queue.members d ≡ Some r) ⊎ (r ≡ rank d);
  spare : length l.woken ≤ l.queue.spare + l.next-index;
}
