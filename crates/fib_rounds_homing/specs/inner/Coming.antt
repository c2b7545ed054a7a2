-- Workers that come home one by one.
use Rattle.std.specs.Prelude.{ℕ, ◌≡◌, ◌<◌, ◌≤◌, ◌+◌, ◌*◌, ◌++◌, [], Bool, true, false, List, Option, Some, None, length, slice_index, slice_index_or, ◌⊎◌}
use Rattle.std.specs.List.{AllByRecursion}
use Rattle.fib_capture.specs.declared.packet.Packet.{Packet}
use Rattle.fib_core.specs.Trails.{Trail}
use Rattle.fib_core_lawful.specs.State.{left_of}
use Rattle.fib_core_board.specs.Boards.{Board}
use Rattle.fib_core_board.specs.Crews.{Seated}
use Rattle.fib_worker_crew.specs.Frames.{frames}
use Rattle.fib_worker_crew.specs.Results.{Kept, Told}
use Rattle.fib_worker_crew.specs.Work.{IsForwarded, Named, frames_in, results_in}
use Rattle.fib_worker_crew.specs.declared.claims.Frame.{Frame}
use Rattle.fib_rounds_homing.specs.Homes.{but_crew}
use Rattle.fib_rounds_homing.specs.Places.{placed}
use Rattle.fib_rounds_homing.specs.Stations.{AreBack}
use Rattle.fib_rounds_homing.specs.declared.station.Station.{Station}

-- the worker, if there is one, is of these words
abbrev pub IsOf : List ℕ → Option Seated → Type 0
IsOf id None = Unit {0}
IsOf id (Some s) = s.id ≡ id

-- n workers came home, and their frames' results are in their places
pub record IsBrought (k first base n : ℕ) (taken : List Packet) (before after : Board) (old new : List (Option Kept)) : Type 0 where
  pub steps : List (Option Frame)
  pub trails : List Trail
  pub came : after.trails ≡ before.trails ++ trails
  pub told : Told trails (results_in steps)
  pub claims : List ℕ
  pub gathered : after.gathered ≡ before.gathered ++ claims
  pub named : Named base (frames taken) claims steps
  pub lasts : length claims ≡ length (frames_in steps) + n
  pub each : AllByRecursion (IsForwarded k first taken) (frames_in steps)
  pub places : new ≡ placed old (frames_in steps)

-- of n stations the first came home, and the rest are to come
pub record IsComing (k first base n : ℕ) (taken : List Packet) (a b : Board) (old new : List (Option Kept)) (done : Bool)
    (rest : List Station) : Type 0 where
  pub at : ℕ
  pub all : at + length rest ≡ n
  pub keeps : but_crew b ≡ but_crew a
  pub back : AreBack a.id a.rests k first base at taken rest
  pub home : (i : ℕ) → (i < at) ⊎ (n ≤ i) → slice_index_or b.out i false ≡ false
  pub brought : done ≡ true → IsBrought k first base at taken a b old new
  pub passes : done ≡ true → (i : ℕ) → left_of (slice_index a.rests i) ≤ left_of (slice_index b.rests i) + 256 * (frames taken + 1)
  pub long : length new ≡ length old
