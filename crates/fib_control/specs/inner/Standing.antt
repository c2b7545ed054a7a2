-- What stands of every control plane between two calls.
use Rattle.std.specs.Prelude.{◌≡◌, ℕ, ◌+◌, ◌^◌, ◌-◌, ◌<◌, ◌≤◌, List, [], Some, slice_get}
use Rattle.fib_reach.specs.Walks.{AllDiffer}
use Rattle.fib_resolve.specs.Sizes.{size}
use Rattle.fib_entries_rows.specs.Known.{StandsFor}
use Rattle.fib_stack.specs.Joined.{Joined}
use Rattle.fib_stack.specs.Orders.{InOrder}
use Rattle.fib_stack.specs.Room.{HasRoomLeft}
use Rattle.fib_control.specs.Controls.{Control, had_turn, parts_in, promise_in, rank_by, state_now, tables_in, view_in}

pub record IsStanding (c : Control) : Type 0 where
  pub stands : StandsFor c.entries (tables_in c)
  pub joined : Joined (tables_in c) (rank_by c) (promise_in c) (view_in c) (parts_in c)
  -- the tables are those of the last version
  pub newest : slice_get c.plane.board.log.history c.plane.board.log.version.applied ≡ Some (tables_in c)
  -- where no change is being made nothing is retired
  pub calm : c.plane.board.log.version.settled ≡ c.plane.board.log.version.applied → c.plane.board.union.retired ≡ []
  -- no turn lacks an object: none is queued before the first change
  pub roomy : 0 < c.plane.board.log.version.applied → HasRoomLeft (tables_in c) (view_in c).free (state_now c)
  -- turns since the last change
  pub ordered : InOrder (rank_by c) (state_now c) (had_turn c)
  pub once : AllDiffer c.done
  -- the tables take half of the objects at most
  pub fits : size (tables_in c) ≤ c.setup.room
  pub room : c.setup.room < 2 ^ 32 - 1
  pub half : c.setup.room + c.setup.room ≤ c.plane.board.objects
