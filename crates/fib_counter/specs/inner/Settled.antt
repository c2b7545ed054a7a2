-- A control plane whose lines were all run, before its workers leave for the first time.
use Rattle.std.specs.Prelude.{ℕ, ◌≡◌, ◌<◌, ◌+◌, ◌-◌, ◌^◌, [], Some, length, slice_get, slice_index}
use Rattle.fib_core_lawful.specs.State.{left_of}
use Rattle.fib_control.specs.Controls.{Control, tables_in}
use Rattle.fib_rounds_homing.specs.Homes.{NoneOut}
use Rattle.fib_rounds_turns.specs.Routers.{applied_in, history_in}

pub record IsSettledRun (workers : ℕ) (c : Control) : Type 0 where
  pub all : c.plane.board.workers ≡ workers
  pub none : NoneOut c.plane.board
  pub trails : c.plane.board.trails ≡ []
  pub gathered : c.plane.board.gathered ≡ []
  pub left : (n : ℕ) → n < workers → left_of (slice_index c.plane.board.rests n) ≡ 2 ^ 63 - 1
  pub settled : c.plane.board.log.version.settled ≡ applied_in c
  pub count : length (history_in c) ≡ applied_in c + 1
  pub newest : slice_get (history_in c) (applied_in c) ≡ Some (tables_in c)
