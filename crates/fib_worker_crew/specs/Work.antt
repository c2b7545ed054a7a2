-- What a worker makes of a round's frames, each of which is named by a claim.
use Rattle.std.specs.Prelude.{ℕ, ◌≡◌, ◌<◌, ◌≤◌, ◌+◌, ◌*◌, ◌^◌, ◌++◌, ◌∷◌, [], List, Option, Some, None, length, ◌⊎◌}
use Rattle.std.specs.List.{AllByRecursion}
use Rattle.fib_core_results.specs.declared.record.Record.{Record}
use Rattle.fib_core_results.specs.Trails.{AtLeast, version_at}
use Rattle.fib_capture.specs.declared.packet.Packet.{Packet}
use Rattle.fib_core.specs.Trails.{Trail}
use Rattle.fib_core_lawful.specs.State.{left_of}
use Rattle.fib_core_board.specs.Crews.{Seated}
use Rattle.fib_cells.specs.Seats.{seat_claimed}
use Rattle.fib_worker_crew.specs.Packets.{Matched, IsAsked}
use Rattle.fib_worker_crew.specs.Frames.{frame, frames}
use Rattle.fib_worker_crew.specs.Results.{numbered, results_of, Told}
use Rattle.fib_worker_crew.specs.declared.claims.Frame.{Frame}

-- of a round that opened at version k with these packets, of which the first has that number: this frame's packets were forwarded
pub record IsForwarded (k first : ℕ) (taken : List Packet) (f : Frame) : Type 0 where
  pub inside : f.number < frames taken
  pub asked : Matched (IsAsked (version_at k)) (frame taken f.number) (results_of f.results.list)
  pub list : f.results.list ≡ numbered (first + 256 * f.number) (frame taken f.number) (results_of f.results.list)

-- what a worker did with its claims: each of them was a frame that it forwarded, or none
abbrev pub frames_in : List (Option Frame) → List Frame
frames_in [] = []
frames_in (None ∷ steps) = frames_in steps
frames_in (Some f ∷ steps) = f ∷ frames_in steps

abbrev pub results_in : List (Option Frame) → List Record
results_in [] = []
results_in (None ∷ steps) = results_in steps
results_in (Some f ∷ steps) = results_of f.results.list ++ results_in steps

-- the claims name these frames, counted from the base; one that names none is not of the frames
abbrev pub Named : ℕ → ℕ → List ℕ → List (Option Frame) → Type 0
Named base count [] [] = Unit {0}
Named base count [] (step ∷ steps) = ⊥
Named base count (claim ∷ claims) [] = ⊥
Named base count (claim ∷ claims) (None ∷ steps) = (base ≤ claim → base + count ≤ claim) × Named base count claims steps
Named base count (claim ∷ claims) (Some f ∷ steps) = (claim ≡ base + f.number) × (f.number < count) × Named base count claims steps

-- a worker made n claims at most, and did this with them. It made a pass a flow of its frames and no other: each raises its pass word by
-- two, and loads the version twice
pub record HasWorked (k first base n : ℕ) (taken : List Packet) (before after : Seated) (steps : List (Option Frame)) : Type 0 where
  pub id : after.id ≡ before.id
  pub number : after.worker.number ≡ before.worker.number
  pub knows : AtLeast before.worker.knows after.worker.knows
  pub left : left_of before.worker.pass ≤ left_of after.worker.pass + 256 * n
  pub trails : List Trail
  pub past : after.worker.past ≡ before.worker.past ++ trails
  pub told : Told trails (results_in steps)
  pub passes : after.worker.pass ≡ before.worker.pass + 2 * length trails
  pub loads : after.worker.version_loads ≡ before.worker.version_loads + 2 * length trails
  pub claims : List ℕ
  pub claimed : after.worker.claims ≡ before.worker.claims ++ claims
  pub few : length claims ≤ n
  pub named : Named base (frames taken) claims steps
  pub each : AllByRecursion (IsForwarded k first taken) (frames_in steps)

-- the frames so far
abbrev pub steps_so_far : List Frame → List (Option Frame)
steps_so_far [] = []
steps_so_far (f ∷ list) = Some f ∷ steps_so_far list

-- the frames, and the last claim, which named none
abbrev pub steps_of : List Frame → List (Option Frame)
steps_of [] = None ∷ []
steps_of (f ∷ list) = Some f ∷ steps_of list

-- the worker claimed a frame of so many, and did nothing with it
pub record HasMissed (base count : ℕ) (before after : Seated) : Type 0 where
  pub frame : ℕ
  pub inside : frame < count
  pub claimed : after ≡ seat_claimed before (base + frame)

-- A worker that didn't come to the round's end forwarded these frames, each named by its claim, and then claimed one frame more, which it missed. Or each of its
-- claims was a frame, and there was one more of them than the round has frames; that can't be where each claim is drawn once.
pub record HasStopped (k first base : ℕ) (taken : List Packet) (before after : Seated) (list : List Frame) : Type 0 where
  pub between : Seated
  pub worked : HasWorked k first base (frames taken + 1) taken before between (steps_so_far list)
  pub last : HasMissed base (frames taken) between after ⊎ ((after ≡ between) × (length list ≡ frames taken + 1))

-- a worker may work at a round of so many frames that opened at version k
pub record MayWork (k count : ℕ) (w : Seated) : Type 0 where
  pub knows : AtLeast (version_at k) w.worker.knows
  pub left : 256 * (count + 1) ≤ left_of w.worker.pass
  pub claims : length w.worker.claims + count + 1 < 2 ^ 32
