use Rattle.std.proofs.Common.{◌≡◌, ◌≤◌, ◌+◌, ◌||◌, ℕ, length, take}
use Rattle.std.specs.Prelude.{Some, ◌⊎◌}
use Rattle.fib_addr.specs.Prefixes.{Prefix}
use Rattle.fib_entries_rows.specs.Known.{rank_of}
use Rattle.fib_stack_queue.specs.Queues.{rank_in}
use Rattle.std.specs.Prelude.{is_some}
use Rattle.fib_stack_waking.specs.Waking.{is_among}
use Rattle.fib_stack_waking.proofs.queueing.enqueue.Given as goal

abbrev pub invariant-loop-prefix : goal.invariant-loop-prefix
invariant-loop-prefix l = record {
  queued : (d : Prefix) → is_some (rank_in l.queue.members d) ≡ is_some (rank_in l.initial.queue.members d) || is_among (take l.prefix-index l.prefixes) d;
  ranks : (d : Prefix) (r : ℕ) → rank_in l.queue.members d ≡ Some r → (rank_in l.initial.queue.members d ≡ Some r) ⊎ (r ≡ rank_of l.entries.rows d);
  spare : l.initial.queue.spare ≤ l.queue.spare + l.prefix-index;
}
