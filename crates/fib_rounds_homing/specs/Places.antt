-- The results of a round's frames, each in the place of its frame.
use Rattle.std.specs.Prelude.{ℕ, ◌≡◌, ◌+◌, ◌*◌, ◌++◌, ◌∷◌, [], List, Option, Some, None, slice_set}
use Rattle.fib_resolve.specs.declared.types.Tables.{Tables}
use Rattle.fib_core_results.specs.declared.record.Record.{Record}
use Rattle.fib_core_results.specs.Trails.{IsRecordOk, version_at}
use Rattle.fib_core_results.specs.Steady.{IsSteady}
use Rattle.fib_capture.specs.declared.packet.Packet.{Packet}
use Rattle.fib_worker_crew.specs.Packets.{IsAsked, Matched}
use Rattle.fib_worker_crew.specs.Frames.{frame}
use Rattle.fib_worker_crew.specs.Results.{Kept, numbered, results_of}
use Rattle.fib_worker_crew.specs.declared.claims.Frame.{Frame}

-- the results of each frame, put into its place
abbrev pub placed : List (Option Kept) → List Frame → List (Option Kept)
placed places [] = places
placed places (f ∷ list) = placed (slice_set places f.number (Some f.results)) list

abbrev pub results_at : Option Kept → List Record
results_at None = []
results_at (Some kept) = results_of kept.list

-- the results by frames, and one after the other
abbrev pub parts_of : List (Option Kept) → List (List Record)
parts_of [] = []
parts_of (place ∷ places) = results_at place ∷ parts_of places

abbrev pub joined : {A : Type 0} → List (List A) → List A
joined [] = []
joined (part ∷ parts) = part ++ joined parts

-- the result is right and steady over the history
pub record IsRight (H : List Tables) (r : Record) : Type 0 where
  pub right : IsRecordOk H r
  pub steady : IsSteady H r

-- to a flow of a round that opened at version k: it is of that address and hash, right and steady, and of no version before the opening
pub record IsRightOf (k : ℕ) (H : List Tables) (a h : ℕ) (r : Record) : Type 0 where
  pub asked : IsAsked (version_at k) a h r
  pub right : IsRight H r

-- these are the results of the frame's flows, each once and in order, with the packets' numbers
pub record IsFilled (k first : ℕ) (H : List Tables) (taken : List Packet) (f : ℕ) (kept : Kept) : Type 0 where
  pub answered : Matched (IsRightOf k H) (frame taken f) (results_of kept.list)
  pub list : kept.list ≡ numbered (first + 256 * f) (frame taken f) (results_of kept.list)

-- each place from the f-th on has the results of its frame, and there are no more frames
abbrev pub AreFilled : ℕ → ℕ → List Tables → List Packet → ℕ → List (Option Kept) → Type 0
AreFilled k first H taken f [] = frame taken f ≡ []
AreFilled k first H taken f (None ∷ places) = ⊥
AreFilled k first H taken f (Some kept ∷ places) = IsFilled k first H taken f kept × AreFilled k first H taken (f + 1) places
