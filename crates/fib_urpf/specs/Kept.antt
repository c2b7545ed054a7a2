-- What contracts see of the sets and the queue, and what stands of them between two calls.
use Rattle.std.specs.Prelude.{◌≡◌, ℕ, List, is_some}
use Rattle.std.specs.Set.{is_member}
use Rattle.fib_addr.specs.Prefixes.{Prefix, same_prefix}
use Rattle.fib_resolve.specs.Tables.{IsSound}
use Rattle.fib_resolve.specs.declared.types.Tables.{Tables}
use Rattle.fib_resolve_changes.specs.Ranks.{Falls}
use Rattle.fib_stack_queue.specs.Queues.{rank_in}
use Rattle.fib_stack_queue.specs.declared.order.Queued.{Queued}
use Rattle.fib_stack_waking.specs.Waking.{AreRanked}
use Rattle.fib_urpf.specs.declared.interfaces.Interfaces.{Interfaces}
use Rattle.fib_urpf.specs.Sets.{kept_in, set_of}
use Rattle.fib_urpf.specs.States.{Stands, State}

-- the prefixes that wait for a turn; the sets, the prefixes that are known as entries; and those that had a turn since the last change, the latest last
pub record Kept : Type 0 where
  pub queue : List Queued
  pub rows : List (Prefix × Interfaces)
  pub members : List Prefix
  pub done : List Prefix

abbrev pub state_of : Kept → State
state_of v = record {
  kept = λ e i. kept_in v.rows i e;
  known = λ e. is_member same_prefix v.members e;
  queued = λ e. is_some (rank_in v.queue e);
  done = v.done;
}

-- what stands between two calls, for tables whose entries have these ranks
pub record IsFor (v : Kept) (S : Tables) (rank : Prefix → ℕ) : Type 0 where
  pub sound : IsSound S
  pub falls : Falls S rank
  pub stands : Stands S rank (state_of v)
  pub ranked : AreRanked rank v.queue

-- nothing that can be asked for is other
pub record IsSame (v w : Kept) : Type 0 where
  pub queue : w.queue ≡ v.queue
  pub sets : set_of w.rows ≡ set_of v.rows
  pub members : w.members ≡ v.members
  pub done : w.done ≡ v.done
