-- What tracing packets makes of a seat and of what is kept.
use Rattle.std.specs.Prelude.{◌≡◌, ℕ, ◌≤◌, ◌<◌, ◌+◌, ◌^◌, ◌++◌, List, length, map}
use Rattle.fib_core_results.specs.declared.record.Version.{Version}
use Rattle.fib_core_results.specs.Trails.{AtLeast}
use Rattle.fib_capture.specs.declared.packet.Packet.{Packet}
use Rattle.fib_core.specs.Trails.{Trail, Follows, result_of}
use Rattle.fib_core_lawful.specs.State.{left_of}
use Rattle.fib_core_board.specs.Crews.{Seated}
use Rattle.fib_worker_crew.specs.Packets.{Matched}
use Rattle.fib_trace.specs.Traces.{coded}
use Rattle.fib_tracer.specs.declared.log.Traced.{Traced}

-- a seat after some passes: of the same words, with the same number and the same claims
pub record IsSameSeat (old new : Seated) : Type 0 where
  pub id : new.id ≡ old.id
  pub number : new.worker.number ≡ old.worker.number
  pub objects : new.worker.objects ≡ old.worker.objects
  pub claims : new.worker.claims ≡ old.worker.claims

-- a trail of the seat's, and the pass that is kept of it
abbrev pub Made : Type 0
Made = Trail × Traced

-- the trail follows the packet and began no earlier than with that version, and the pass tells its loads and its result
pub record IsMade (low : Version) (a h : ℕ) (m : Made) : Type 0 where
  pub follows : Follows a h m.0.loads
  pub later : AtLeast low m.0.lo
  pub loads : m.0.loads ≡ coded m.1.loads
  pub result : m.1.result ≡ result_of m.0 a h
  pub short : length m.1.loads < 2 ^ 32

-- the seat's past grew by one trail for each of these packets that is a flow, in order, and what is kept by its pass
pub record HasTracedAll (packets : List Packet) (old new : Seated) (before after : List Traced) : Type 0 where
  pub made : List Made
  pub each : Matched (IsMade old.worker.knows) packets made
  pub passes : after ≡ before ++ map (λ m. m.1) made
  pub past : new.worker.past ≡ old.worker.past ++ map (λ m. m.0) made
  pub same : IsSameSeat old new
  pub knows : AtLeast old.worker.knows new.worker.knows
  pub left : left_of old.worker.pass ≤ left_of new.worker.pass + length packets
