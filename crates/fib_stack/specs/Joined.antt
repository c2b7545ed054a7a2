-- What stands between a plane, the prefix table, the stack, the queue and the tables.
use Rattle.std.specs.Prelude.{◌≡◌, ℕ, Bool, true, ◌<◌, List, Option, Some, Contains}
use Rattle.fib_addr.specs.Prefixes.{Prefix}
use Rattle.fib_resolve.specs.declared.types.End.{End}
use Rattle.fib_resolve.specs.declared.types.Tables.{Tables}
use Rattle.fib_core.specs.declared.word.Word.{Word}
use Rattle.fib_pool.specs.declared.object.AdjacencyRecord.{AdjacencyRecord}
use Rattle.fib_stack_ledger.specs.declared.ledger.Known.{Known}
use Rattle.fib_stack_ledger.specs.declared.late.Late.{Late}
use Rattle.fib_stack_ledger.specs.Deferred.{late_at}
use Rattle.fib_stack_ledger.specs.Ledgers.{forwarded_by, used_by}
use Rattle.fib_stack_queue.specs.Queues.{rank_in}
use Rattle.fib_stack_queue.specs.declared.order.Queued.{Queued}
use Rattle.fib_ply.specs.Rows.{held}
use Rattle.fib_ply.specs.Tables.{Table, Stands}
use Rattle.fib_ply.specs.declared.rows.Row.{Row}
use Rattle.fib_core_promise.specs.Matches.{FitsVersions}
use Rattle.fib_core_promise.specs.Stack.{is_some}
use Rattle.fib_plane_view.specs.Promise.{Promise, IsBegun}
use Rattle.fib_plane_view.specs.View.{View, IsBalance}
use Rattle.fib_stack.specs.Buckets.{state_of}
use Rattle.fib_stack.specs.Records.{AreObjects, holds_in}
use Rattle.fib_stack.specs.States.{Kept, State}
use Rattle.fib_stack.specs.Steadiness.{IsSteady}

-- the stack beside the plane: the table's rows and how many plies it has, what is known of prefixes, how often each record is used, what is
-- deferred, and what is queued
pub record Parts : Type 0 where
  pub rows : List Row
  pub plies : ℕ
  pub known : Prefix → Option Known
  pub total : AdjacencyRecord → ℕ
  pub late : List Late
  pub queue : List Queued

abbrev pub balance_in : Parts → Prefix → Option ℕ
balance_in s = held s.rows

abbrev pub was_by : Parts → Prefix → Bool
was_by s e = forwarded_by (s.known e)

abbrev pub holds_by : Parts → Prefix → End → Bool
holds_by s e end = holds_in (used_by (s.known e)) end

abbrev pub queued_in : Parts → Prefix → Bool
queued_in s e = is_some (rank_in s.queue e)

-- what a turn reads and changes
abbrev pub state_in : View → Parts → State
state_in v s = state_of v (balance_in s) (was_by s) (late_at s.late) (holds_by s) (queued_in s)

-- the records have as many users as prefixes use them, under the objects that are known; the table's objects are balances that are held, and
-- each balance that is held is one of the table's
pub record IsLaid (v : View) (s : Parts) : Type 0 where
  pub counted : (m : AdjacencyRecord) → v.users m ≡ s.total m
  pub objects : (e : Prefix) → AreObjects v (used_by (s.known e))
  pub balances : (e : Prefix) (o : ℕ) → balance_in s e ≡ Some o → IsBalance v o
  pub owned : (o : ℕ) → IsBalance v o → (e : Prefix) × (balance_in s e ≡ Some o)

-- the same versions, at a time at which stores are allowed
abbrev pub in_change : Promise → Promise
in_change p = record p { settled = 0; alone = true }

abbrev pub table_of : Parts → Table
table_of s = record { rows = record { members = s.rows; spare = 0 }; plies = s.plies }

pub record Joined (S : Tables) (rank : Prefix → ℕ) (p : Promise) (v : View) (s : Parts) : Type 0 where
  pub kept : Kept S (state_in v s)
  pub laid : IsLaid v s
  -- the plies stand for the table, whose prefixes are those of the versions
  pub table : Stands (in_change p) (table_of s) v
  pub fits : IsBegun p → FitsVersions p.versions (balance_in s)
  pub steady : IsBegun p → IsSteady p.versions (state_in v s)
  -- the tables are one of the versions
  pub newest : IsBegun p → Contains p.versions S
  -- prefixes are queued by their ranks, and anything is queued or deferred only while a change is being made
  pub ranked : (e : Prefix) (r : ℕ) → rank_in s.queue e ≡ Some r → r ≡ rank e
  pub waiting : (e : Prefix) (r : ℕ) → rank_in s.queue e ≡ Some r → p.settled < p.applied
  pub deferred : (e : Prefix) (k : ℕ) (w : Word) → late_at s.late e k ≡ Some w → p.settled < p.applied
