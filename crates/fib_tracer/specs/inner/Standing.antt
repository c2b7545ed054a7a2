-- The worker that traces, before it begins and once it is done.
use Rattle.std.specs.Prelude.{◌≡◌, ℕ, ◌<◌, ◌≤◌, ◌-◌, ◌^◌, [], List, Option, Some, None, true, length, slice_index}
use Rattle.fib_capture.specs.declared.packet.Packet.{Packet}
use Rattle.fib_core_lawful.specs.State.{left_of}
use Rattle.fib_core_board.specs.Crews.{Seated}
use Rattle.fib_control.specs.Controls.{Control}
use Rattle.fib_rounds_homing.specs.Homes.{NoneOut}
use Rattle.fib_rounds_turns.specs.Routers.{applied_in}
use Rattle.fib_tracer.specs.declared.beside.Tracer.{Tracer}
use Rattle.fib_tracer.specs.declared.log.Log.{Log}
use Rattle.fib_tracer.specs.inner.Tracing.{HasTracedAll, IsSameSeat}

-- the seat has a pass for each packet, and there is room for the loads of each; nothing is kept yet
pub record MayTraceAll (packets : List Packet) (log : Log) (v : Seated) : Type 0 where
  pub left : length packets ≤ left_of v.worker.pass
  pub room : v.worker.objects ≤ log.trail.objects
  pub short : log.trail.objects ≤ 131072
  pub none : log.passes.items ≡ []

abbrev pub IsReadyBy : List Packet → Log → Option Seated → Type 0
IsReadyBy packets log None = ⊥
IsReadyBy packets log (Some v) = MayTraceAll packets log v

abbrev pub IsReady : List Packet → Tracer → Type 0
IsReady packets t = IsReadyBy packets t.log t.seat

-- the seat made its passes, and they are all that is kept where it was done
pub record HasTracedBy (packets : List Packet) (v w : Seated) (t : Tracer) : Type 0 where
  pub same : IsSameSeat v w
  pub made : t.done ≡ true → HasTracedAll packets v w [] t.log.passes.items

abbrev pub HasDoneBy : List Packet → Tracer → Option Seated → Option Seated → Type 0
HasDoneBy packets t (Some v) (Some w) = HasTracedBy packets v w t
HasDoneBy packets t v w = ⊥

abbrev pub HasDone : List Packet → Tracer → Tracer → Type 0
HasDone packets s t = HasDoneBy packets t s.seat t.seat

-- a seat of these words
abbrev pub IsOf : List ℕ → Option Seated → Type 0
IsOf words None = Unit {0}
IsOf words (Some v) = v.id ≡ words

-- the control plane has so many objects, all workers are home and made no pass yet, and the last version is settled
pub record IsIdle (n : ℕ) (c : Control) : Type 0 where
  pub objects : c.plane.board.objects ≡ n
  pub some : 0 < c.plane.board.workers
  pub none : NoneOut c.plane.board
  pub trails : c.plane.board.trails ≡ []
  pub gathered : c.plane.board.gathered ≡ []
  pub left : left_of (slice_index c.plane.board.rests 0) ≡ 2 ^ 63 - 1
  pub settled : c.plane.board.log.version.settled ≡ applied_in c
