-- A round whose workers are home.
use Rattle.std.specs.Prelude.{ℕ, ◌≡◌, ◌+◌, ◌-◌, ◌++◌, ◌∷◌, [], false, List, Option, length, slice_index_or}
use Rattle.fib_core_results.specs.declared.record.Record.{Record}
use Rattle.fib_capture.specs.declared.packet.Packet.{Packet}
use Rattle.fib_core.specs.Trails.{Trail}
use Rattle.fib_core_board.specs.Boards.{Board}
use Rattle.fib_worker_crew.specs.Packets.{IsOf, Matched}
use Rattle.fib_capture.specs.Captures.{Capture}
use Rattle.fib_worker_crew.specs.Frames.{frame, frames}
use Rattle.fib_worker_crew.specs.Taking.{packets_taken}
use Rattle.fib_worker_crew.specs.declared.claims.Taken.{Taken}
use Rattle.fib_worker_crew.specs.Results.{Kept, Told}
use Rattle.fib_rounds_homing.specs.Places.{AreFilled, IsRightOf, joined, parts_of}

abbrev pub NoneOut : Board → Type 0
NoneOut b = (n : ℕ) → slice_index_or b.out n false ≡ false

-- the board but for who is out
abbrev pub but_out : Board → Board
but_out b = record b { out = [] }

-- and but for what workers brought home
abbrev pub but_crew : Board → Board
but_crew b = record b { out = []; rests = []; trails = []; gathered = [] }

-- the parts that claims name, in the order of the claims: a claim less the base names its part, and none past the last
abbrev pub claimed : {A : Type 0} → ℕ → List (List A) → List ℕ → List A
claimed base parts [] = []
claimed base parts (claim ∷ claims) = slice_index_or parts (claim - base) [] ++ claimed base parts claims

-- how many claims a round takes of so many workers: none where it has no packets
abbrev pub claims_of : ℕ → List Packet → ℕ
claims_of workers [] = 0
claims_of workers (p ∷ packets) = frames (p ∷ packets) + workers

-- What a round of so many workers brought home, its claims counted from the base: the results of its flows, cut into frames as its packets
-- are; a claim for each frame, and one more a worker, which names none; and, in the order of the claims, one trail for each flow of the frame
-- that is named, in packet order, which follows it and whose result is the flow's.
pub record HasGathered (workers base : ℕ) (taken : List Packet) (results : List Record) (claims : List ℕ)
    (trails : List Trail) : Type 0 where
  pub parts : List (List Record)
  pub whole : results ≡ joined parts
  pub each : (f : ℕ) → Matched IsOf (frame taken f) (slice_index_or parts f [])
  pub count : length claims ≡ claims_of workers taken
  pub told : Told trails (claimed base parts claims)

-- Of a round that opened at version k with these packets, of which the first has that number: so many workers came home with all that they
-- gathered, and each place has the results of its frame. One after the other they are the results of all flows, each once and in packet order.
pub record IsHome (k first base workers : ℕ) (taken : List Packet) (before after : Board) (places : List (Option Kept)) : Type 0 where
  pub filled : AreFilled k first after.log.history taken 0 places
  pub answered : Matched (IsRightOf k after.log.history) taken (joined (parts_of places))
  pub trails : List Trail
  pub came : after.trails ≡ before.trails ++ trails
  pub claims : List ℕ
  pub brought : after.gathered ≡ before.gathered ++ claims
  pub gathered : HasGathered workers base taken (joined (parts_of places)) claims trails

-- the same of a round that takes these packets of a capture
abbrev pub IsHomeFrom : Capture → Taken → ℕ → Board → Board → List (Option Kept) → Type 0
IsHomeFrom c t workers before after places = IsHome t.opened t.first t.base workers (packets_taken c t) before after places
