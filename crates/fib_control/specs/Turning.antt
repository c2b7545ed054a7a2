-- What turns leave beyond them: who had one, and the objects of prefixes that stay.
use Rattle.std.specs.Prelude.{◌≡◌, ◌⊎◌, ◌↔◌, ℕ, ◌++◌, ◌||◌, true, List, Some}
use Rattle.fib_addr.specs.Prefixes.{Prefix}
use Rattle.fib_resolve.specs.Forwarding.{forwards}
use Rattle.fib_resolve.specs.Touched.{differ}
use Rattle.fib_resolve.specs.declared.types.Tables.{Tables}
use Rattle.fib_resolve_changes.specs.Ranks.{has_entry, wakes}
use Rattle.fib_ply.specs.Rows.{held}
use Rattle.fib_stack.specs.States.{State}
use Rattle.fib_stack_waking.specs.Waking.{is_among}
use Rattle.fib_control.specs.Controls.{Control, is_queued, state_now, tables_in}

-- an entry among those that had a turn forwards now where it didn't before, or the other way round, and e is one of those that it wakes
pub record IsWoken (S : Tables) (s : State) (had : List Prefix) (e : Prefix) : Type 0 where
  pub by : Prefix
  pub among : is_among had by ≡ true
  pub entry : has_entry S by ≡ true
  pub other : differ (s.was by) (forwards S by) ≡ true
  pub wakes : wakes S e by ≡ true

-- e waited for a turn, or was woken by one of those that had theirs
abbrev pub IsDue : Tables → State → List Prefix → Prefix → Type 0
IsDue S s had e = (s.queued e ≡ true) ⊎ IsWoken S s had e

-- From c on these prefixes had their turns, in this order; they and those that are queued still are just those that were due. An entry that had an
-- object keeps it.
pub record HaveTurned (c d : Control) : Type 0 where
  pub had : List Prefix
  pub done : d.done ≡ c.done ++ had
  pub due : (e : Prefix) → (is_among had e || is_queued d e) ≡ true ↔ IsDue (tables_in c) (state_now c) had e
  pub objects : (e : Prefix) (o : ℕ) → has_entry (tables_in c) e ≡ true → held c.rows e ≡ Some o → held d.rows e ≡ Some o
