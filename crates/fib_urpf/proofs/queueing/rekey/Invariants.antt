use Rattle.std.proofs.Common.{◌≡◌, ◌≤◌, ◌+◌, ℕ, false, take}
use Rattle.std.specs.Prelude.{Some, ◌⊎◌, is_some}
use Rattle.fib_addr.specs.Prefixes.{Prefix}
use Rattle.fib_entries_rows.specs.Known.{rank_of}
use Rattle.fib_stack_queue.specs.Queues.{rank_in}
use Rattle.fib_stack_waking.specs.Waking.{are_among}
use Rattle.fib_urpf.proofs.queueing.rekey.Given as goal

abbrev pub invariant-loop-one : goal.invariant-loop-one
invariant-loop-one l = record {
  queued : (d : Prefix) → is_some (rank_in l.queue.members d) ≡ is_some (rank_in l.initial.queue.members d);
  ranks : (d : Prefix) (r : ℕ) → rank_in l.queue.members d ≡ Some r → (r ≡ rank_of l.entries.rows d) ⊎ ((rank_in l.initial.queue.members d ≡ Some r) × (are_among (take l.one-index l.listed) d ≡ false));
  spare : l.initial.queue.spare ≤ l.queue.spare + l.one-index;
}
