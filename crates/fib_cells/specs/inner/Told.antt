-- What each step tells its seat: of the view before, the word that the step is on, and what it found or stored.
use Rattle.std.specs.Prelude.{◌≡◌, ℕ, ◌+◌, ◌-◌, ◌<◌, false, [], ◌∷◌, None, List, slice_index, slice_index_or}
use mathlib.Core.Option.{some, none}
use Rattle.atomic_table.specs.Table.{Step, Me}
use Rattle.fib_resolve.specs.Tables.{fresh}
use Rattle.fib_resolve.specs.declared.types.Tables.{Tables}
use Rattle.fib_core_results.specs.declared.record.Version.{Version}
use Rattle.fib_core_results.specs.Trails.{version_at}
use Rattle.fib_core_results.specs.Versions.{unpacked}
use Rattle.fib_core.specs.Words.{IsWord}
use Rattle.fib_core.specs.Trails.{IsSoundTrail}
use Rattle.fib_core_lawful.specs.Layout.{cell_of, worker_at}
use Rattle.fib_core_lawful.specs.State.{Control, Worker, View, control, worker, note, spent, first_control}
use Rattle.fib_core_lawful.specs.State.{started, learned, hopped, stopped, claimed, told}
use Rattle.fib_core_lawful.specs.State.{put, looked, with_log, begun, settled, picking, sent, new_worker, taken_home}
use Rattle.fib_core_lawful.specs.Lawful.{IsTold}
use Rattle.fib_core_lawful.specs.Claims.{IsSpare}
use Rattle.fib_core_board.specs.Boards.{Pass, board_of}
use Rattle.fib_core_board.specs.Told.{IsBoard, IsWithinLimits}

abbrev pub no_worker : Worker
no_worker = record {
  objects = 0;
  number = 0;
  pass = 0;
  walks = false;
  version_loads = 0;
  knows = version_at 0;
  lo = version_at 0;
  trail = [];
  hi = None;
  past = [];
  claims = [];
}

abbrev pub control_of : View → Control
control_of (control c) = c
control_of (worker w) = first_control 0 0
control_of (note n) = first_control 0 0
control_of spent = first_control 0 0

abbrev pub worker_of : View → Worker
worker_of (control c) = no_worker
worker_of (worker w) = w
worker_of (note n) = no_worker
worker_of spent = no_worker

abbrev pub note_of : View → Version
note_of (control c) = version_at 0
note_of (worker w) = version_at 0
note_of (note n) = n
note_of spent = version_at 0

-- the seat holds no slot, and its view is of its kind
abbrev pub IsControl : Me Tables View → Type 0
IsControl me = me ≡ (control (control_of me.0), [])

abbrev pub IsWorker : Me Tables View → Type 0
IsWorker me = me ≡ (worker (worker_of me.0), [])

abbrev pub IsNote : Me Tables View → Type 0
IsNote me = me ≡ (note (note_of me.0), [])

abbrev pub Telling : Type 1
Telling = Step Tables → Me Tables View → ℕ → Me Tables View → Type 0

-- the steps of a worker

abbrev pub Starts : Telling
Starts s v n w = (w ≡ (worker (started (worker_of v.0) n), [])) × IsSoundTrail (worker_of v.0).objects []

-- what was known is no later than what is found
abbrev pub Learns : Telling
Learns s v n w = (w ≡ (worker (learned (worker_of v.0) n), [])) × IsTold (unpacked n) (worker_of v.0).knows

abbrev pub Hops : Telling
Hops s v n w =
    (w ≡ (worker (hopped (worker_of v.0) (cell_of s.word) n), [])) × IsWord n
    × IsSoundTrail (worker_of v.0).objects ((cell_of s.word, n) ∷ (worker_of v.0).trail)

abbrev pub Stops : Telling
Stops s v n w = w ≡ (worker (stopped (worker_of v.0) n), [])

abbrev pub Draws : Telling
Draws s v n w = w ≡ (worker (claimed (worker_of v.0) n), [])

-- the steps of the control plane, each with what holds of its board then

abbrev pub Tells : Control → Type 0
Tells c =
    IsWithinLimits c.objects c.workers → (id : List ℕ) (passes : List (Rattle.std.specs.Prelude.Option Pass))
    → IsBoard (board_of id c.home passes c)

abbrev pub Becomes : Me Tables View → Control → Type 0
Becomes w c = (w ≡ (control c, [])) × Tells c

abbrev pub Stores : Telling
Stores s v n w = Becomes w (put (control_of v.0) (cell_of s.word) n)

-- the tables that were said
abbrev pub said_or : mathlib.Core.Option.Option Tables → Tables
said_or (some t) = t
said_or none = fresh

abbrev pub Begins : Telling
Begins s v n w = Becomes w (with_log (control_of v.0) (begun (control_of v.0).log (said_or s.said)))

abbrev pub Settles : Telling
Settles s v n w = Becomes w (with_log (control_of v.0) (settled (control_of v.0).log))

-- of a number that isn't out, what is found is what it rested at
abbrev pub Looks : Telling
Looks s v n w =
    Becomes w (looked (control_of v.0) (worker_at s.word) n)
    × (worker_at s.word < 8 → slice_index_or (control_of v.0).desk.out (worker_at s.word) false ≡ false
    → n ≡ slice_index (control_of v.0).desk.rests (worker_at s.word))

abbrev pub Picks : Telling
Picks s v n w = w ≡ (control (picking (control_of v.0) (worker_at s.word)), [])

-- and how much room there is for claims
abbrev pub Recalls : Telling
Recalls s v n w = Becomes w (control_of v.0) × IsSpare (control_of v.0).gathered (control_of v.0).desk.out

-- seats that are split off and joined

abbrev pub left_at_home : View → View
left_at_home v = control (sent (control_of v))

abbrev pub sent_out : View → View
sent_out v = worker (new_worker (control_of v))

abbrev pub noted_by : View → View
noted_by v = control (control_of v)

abbrev pub noted_on : View → View
noted_on v = note (control_of v).log.version

abbrev pub both_of : View → View → View
both_of v w = control (taken_home (control_of v) (worker_of w))

abbrev pub told_of : View → View → View
told_of v w = worker (told (worker_of v) (note_of w))
