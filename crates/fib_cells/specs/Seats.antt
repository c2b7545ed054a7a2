-- Seats on the shared words, as contracts see them, and what their calls make of them.
use Rattle.std.specs.Prelude.{◌≡◌, ℕ, ◌+◌, ◌-◌, ◌*◌, ◌^◌, List, [], ◌∷◌, length, Some}
use Rattle.atomic_table.specs.Seated.{TableId}
use Rattle.fib_core_results.specs.declared.record.Version.{Version}
use Rattle.fib_core.specs.declared.word.Word.{Word}
use Rattle.fib_core.specs.Words.{encoded}
use Rattle.fib_core.specs.Walk.{adjacency}
use Rattle.fib_core.specs.Trails.{Follows, place, stands}
use Rattle.fib_core_lawful.specs.State.{Worker, first_control, started, hopped, stopped, claimed, told}
use Rattle.fib_core_board.specs.Boards.{Board, board_of}
use Rattle.fib_core_board.specs.Crews.{Seated, Noted}
use Rattle.fib_cells.specs.declared.cells.Cells.{Cells}

-- which words a table has: what no other table shares with it
abbrev pub id_of : TableId → List ℕ
id_of z = z.words ∷ z.slots ∷ z.views_name ∷ z.atom ∷ z.block ∷ z.offset ∷ z.slot_names

abbrev pub id_in : Cells → List ℕ
id_in cells = id_of cells.words.shared.table_id

-- all cells say Drop, the version is (0, 0), nothing is retired and nobody is out. Passes run in seats of their own
abbrev pub fresh_live : List ℕ → ℕ → ℕ → Board
fresh_live id objects workers = board_of id [] [] (first_control objects workers)

-- a pass starts and stops: its pass word is odd in between
abbrev pub seat_started : Seated → Seated
seat_started s = record s { worker = started s.worker (s.worker.pass + 1) }

abbrev pub seat_stopped : Seated → Seated
seat_stopped s = record s { worker = stopped s.worker (s.worker.pass + 1) }

-- the version was loaded
abbrev pub learned_as : Worker → Version → Worker
learned_as v version = record v { version_loads = v.version_loads + 1; knows = version; hi = Some version }

abbrev pub seat_learned : Seated → Version → Seated
seat_learned s version = record s { worker = learned_as s.worker version }

-- this word was loaded from that slot of the object where the seat stands
abbrev pub seat_loaded : Seated → ℕ → Word → Seated
seat_loaded s slot w = record s { worker = hopped s.worker (16 * stands s.worker.trail + slot) (encoded w) }

-- by the walk of some packet the seat stands on an adjacency, of which it has read the words before that slot
pub record IsReading (v : Worker) (slot : ℕ) : Type 0 where
  pub addr : ℕ
  pub hash : ℕ
  pub object : ℕ
  pub read : List Word
  pub follows : Follows addr hash v.trail
  pub at : place v.trail ≡ adjacency object read
  pub count : length read ≡ slot

-- a note was joined
abbrev pub seat_told : Seated → Noted → Seated
seat_told s n = record s { worker = told s.worker n.version }

-- this number was drawn
abbrev pub seat_claimed : Seated → ℕ → Seated
seat_claimed s n = record s { worker = claimed s.worker n }

-- how many claims a seat may still draw
abbrev pub claims_left_of : Worker → ℕ
claims_left_of v = 2 ^ 32 - 1 - length v.claims
