-- Moments between the steps of turns and retries: the plane, with what stands beside it.
use Rattle.std.specs.Prelude.{ℕ}
use Rattle.fib_addr.specs.Prefixes.{Prefix}
use Rattle.fib_base_ordered.specs.Sets.{Order}
use Rattle.fib_resolve.specs.declared.types.Tables.{Tables}
use Rattle.fib_plane_view.specs.Promise.{Promise}
use Rattle.fib_plane_view.specs.View.{View}
use Rattle.fib_ply.specs.Tables.{Table}
use Rattle.fib_stack_ledger.specs.Ledgers.{known_of, total}
use Rattle.fib_stack_queue.specs.declared.order.Queued.{Queued}
use Rattle.fib_stack.specs.Joined.{Joined, Parts, state_in}
use Rattle.fib_stack.specs.States.{State}
use Rattle.fib_stack.specs.declared.stack.Stack.{Stack}

-- what the prefix table, the stack and the queue know
abbrev pub parts_of : Table → Stack → Order Queued → Parts
parts_of t s q = record {
  rows = t.rows.members;
  plies = t.plies;
  known = known_of s.ledger.rows;
  total = total s.ledger.rows;
  late = s.late.members;
  queue = q.members;
}

pub record Moment : Type 0 where
  pub view : View
  pub parts : Parts

abbrev pub moment : View → Table → Stack → Order Queued → Moment
moment v t s q = record { view = v; parts = parts_of t s q }

-- what a turn reads and changes, as it is then
abbrev pub state_at : Moment → State
state_at m = state_in m.view m.parts

-- this holds of any tables and ranks with which all stands joined then
abbrev pub FromJoined : Promise → Moment → (Tables → (Prefix → ℕ) → Type 0) → Type 0
FromJoined p m P = (S : Tables) (rank : Prefix → ℕ) → Joined S rank p m.view m.parts → P S rank
