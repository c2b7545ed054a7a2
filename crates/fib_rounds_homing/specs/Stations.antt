-- The workers of a round at their stations: as they leave, and after their work.
use Rattle.std.specs.Prelude.{ℕ, ◌≡◌, ◌+◌, ◌*◌, ◌++◌, ◌&&◌, ◌∷◌, [], Bool, true, false, List, Option, Some, None, length, slice_index, slice_set}
use Rattle.fib_capture.specs.declared.packet.Packet.{Packet}
use Rattle.fib_core.specs.Trails.{Trail}
use Rattle.fib_core_board.specs.Boards.{Board}
use Rattle.fib_core_board.specs.Crews.{Seated, new_seat}
use Rattle.fib_worker_crew.specs.Frames.{frames}
use Rattle.fib_worker_crew.specs.Taking.{frames_taken, packets_taken}
use Rattle.fib_worker_crew.specs.declared.claims.Taken.{Taken}
use Rattle.fib_capture.specs.Captures.{Capture}
use Rattle.fib_worker_crew.specs.Results.{Told}
use Rattle.fib_worker_crew.specs.Work.{HasStopped, HasWorked, MayWork, results_in, steps_of}
use Rattle.fib_worker_crew.specs.declared.claims.Frame.{Frame}
use Rattle.fib_rounds_homing.specs.declared.station.Station.{Station}

-- the station has a worker, which may work at a round of so many frames that opened at version k
abbrev pub MayWorkBy : ℕ → ℕ → Option Seated → Type 0
MayWorkBy k count None = ⊥
MayWorkBy k count (Some w) = MayWork k count w

abbrev pub IsReady : ℕ → ℕ → Station → Type 0
IsReady k count s = MayWorkBy k count s.worker

-- of a round that opened at version k with these packets, of which the first has that number: the worker did its work
pub record HasWorkedBy (k first base : ℕ) (taken : List Packet) (v w : Seated) (t : Station) : Type 0 where
  pub id : w.id ≡ v.id
  pub number : w.worker.number ≡ v.worker.number
  pub worked : t.done ≡ true → HasWorked k first base (frames taken + 1) taken v w (steps_of t.frames.items)
  pub stopped : t.done ≡ false → HasStopped k first base taken v w t.frames.items

abbrev pub HasDoneBy : ℕ → ℕ → ℕ → List Packet → Station → Option Seated → Option Seated → Type 0
HasDoneBy k first base taken t (Some v) (Some w) = HasWorkedBy k first base taken v w t
HasDoneBy k first base taken t v w = ⊥

abbrev pub HasDone : ℕ → ℕ → ℕ → List Packet → Station → Station → Type 0
HasDone k first base taken s t = HasDoneBy k first base taken t s.worker t.worker

-- the station has the worker that left the board with that number
abbrev pub IsMustered : Board → ℕ → Station → Type 0
IsMustered b number s = s.worker ≡ Some (new_seat b number)

-- and so have all stations, with the numbers from one on
abbrev pub IsCrew : Board → ℕ → List Station → Type 0
IsCrew b at [] = Unit {0}
IsCrew b at (s ∷ crew) = IsMustered b at s × IsCrew b (at + 1) crew

-- a seat as it left a board of these words, with that number and that pass word
pub record IsNew (words : List ℕ) (n p : ℕ) (v : Seated) : Type 0 where
  pub id : v.id ≡ words
  pub number : v.worker.number ≡ n
  pub pass : v.worker.pass ≡ p
  pub loads : v.worker.version_loads ≡ 0
  pub past : v.worker.past ≡ []
  pub claims : v.worker.claims ≡ []

-- Since a worker left with the pass word p it made a pass for each flow of these frames, in order, and no other. Each raises its pass word by two, and loads
-- the version exactly twice.
pub record HasPassed (p : ℕ) (w : Seated) (list : List Frame) : Type 0 where
  pub flows : Told w.worker.past (results_in (steps_of list))
  pub passes : w.worker.pass ≡ p + 2 * length w.worker.past
  pub loads : w.worker.version_loads ≡ 2 * length w.worker.past

-- the station has its worker back
pub record IsBack (words rests : List ℕ) (k first base number : ℕ) (taken : List Packet) (t : Station) : Type 0 where
  pub left : Seated
  pub new : IsNew words number (slice_index rests number) left
  pub worker : Seated
  pub has : t.worker ≡ Some worker
  pub back : HasWorkedBy k first base taken left worker t
  pub passed : HasPassed (slice_index rests number) worker t.frames.items

-- and so have all stations, with the numbers from one on
abbrev pub AreBack : List ℕ → List ℕ → ℕ → ℕ → ℕ → ℕ → List Packet → List Station → Type 0
AreBack words rests k first base at taken [] = Unit {0}
AreBack words rests k first base at taken (t ∷ crew) =
    IsBack words rests k first base at taken t × AreBack words rests k first base (at + 1) taken crew

-- the trails that the workers at their stations have behind them, one worker after the other
abbrev pub past_of : Option Seated → List Trail
past_of None = []
past_of (Some w) = w.worker.past

abbrev pub pasts_of : List Station → List Trail
pasts_of [] = []
pasts_of (s ∷ crew) = past_of s.worker ++ pasts_of crew

-- the pass words of all workers' numbers, once those at their stations came home with theirs
abbrev pub rests_with : List ℕ → Option Seated → List ℕ
rests_with rests None = rests
rests_with rests (Some w) = slice_set rests w.worker.number w.worker.pass

abbrev pub rests_of : List ℕ → List Station → List ℕ
rests_of rests [] = rests
rests_of rests (s ∷ crew) = rests_of (rests_with rests s.worker) crew

-- each of them came to the round's end
abbrev pub all_done : List Station → Bool
all_done [] = true
all_done (s ∷ crew) = s.done && all_done crew

-- the same of a round that takes these packets of a capture
abbrev pub IsReadyFor : Capture → Taken → Station → Type 0
IsReadyFor c t s = IsReady t.opened (frames_taken c t) s

abbrev pub HasDoneFor : Capture → Taken → Station → Station → Type 0
HasDoneFor c t s u = HasDone t.opened t.first t.base (packets_taken c t) s u

abbrev pub AreBackFrom : Capture → Taken → Board → List Station → Type 0
AreBackFrom c t b crew = AreBack b.id b.rests t.opened t.first t.base 0 (packets_taken c t) crew
