-- What a load makes of a walking seat, and of what was told of it.
use Rattle.std.specs.Prelude.{◌≡◌, ℕ}
use Rattle.fib_core.specs.declared.word.Word.{Word}
use Rattle.fib_core.specs.Words.{IsRoomy}
use Rattle.fib_core.specs.Trails.{IsSoundTrail}
use Rattle.fib_core_board.specs.Crews.{Seated}
use Rattle.fib_cells.specs.Seats.{seat_loaded}
use Rattle.fib_trace.specs.Traces.{Trace, coded}

-- this word was found in that slot of the object where the seat stood
pub record HasLoaded (old : Seated) (slot : ℕ) (W : Word) (new : Seated) : Type 0 where
  pub loaded : new ≡ seat_loaded old slot W
  pub roomy : IsRoomy W
  pub sound : IsSoundTrail new.worker.objects new.worker.trail

-- what told the whole of the seat's trail still does, with the same room
pub record StaysTold (old : Seated) (told : Trace) (new : Seated) (tells : Trace) : Type 0 where
  pub objects : tells.objects ≡ told.objects
  pub loads : old.worker.trail ≡ coded told.loads → new.worker.trail ≡ coded tells.loads
