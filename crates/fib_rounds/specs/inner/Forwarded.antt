-- A round whose lines were run and whose workers are home.
use Rattle.std.specs.Prelude.{ℕ, ◌≡◌, ◌<◌, ◌≤◌, ◌+◌, ◌-◌, ◌*◌, ◌^◌, List, Option, length, drop, slice_index}
use Rattle.fib_capture.specs.declared.packet.Packet.{Packet}
use Rattle.fib_core_lawful.specs.State.{left_of}
use Rattle.fib_control.specs.Controls.{Control}
use Rattle.fib_worker_crew.specs.Frames.{frames}
use Rattle.fib_worker_crew.specs.Packets.{span}
use Rattle.fib_worker_crew.specs.Results.{Kept}
use Rattle.fib_rounds_homing.specs.Homes.{IsHome, NoneOut}
use Rattle.fib_rounds_turns.specs.Routers.{Progress, applied_in, router_of}
use Rattle.fib_rounds.specs.declared.lines.Stop.{Stop}
use Rattle.fib_rounds.specs.declared.opening.Opening.{Opening}
use Rattle.fib_rounds.specs.Stages.{IsHistory}
use Rattle.fib_rounds.specs.Rounds.{GoesOn, StopsAt, lines_run, stage_of}

-- All workers are home before the line after that place, the last version is settled, and enough claims and passes are left.
pub record IsAtRest (workers place : ℕ) (c : Control) : Type 0 where
  pub all : c.plane.board.workers ≡ workers
  pub none : NoneOut c.plane.board
  pub few : length c.plane.board.gathered ≤ place * 2 ^ 25
  pub passes : (n : ℕ) → n < workers → 2 ^ 63 - 1 ≤ left_of (slice_index c.plane.board.rests n) + place * 2 ^ 33
  pub settled : c.plane.board.log.version.settled ≡ applied_in c

-- What the lines print, where they stop, and the round's results, by frames.
pub record HasForwardedRound (script : List (List ℕ)) (packets : List Packet) (round : Opening) (before : Control) (early : Progress)
    (old : List ℕ) (stop : Stop) (after : Control) (late : Progress) (new : List ℕ) (places : List (Option Kept)) : Type 0 where
  pub on : GoesOn script round.place (stage_of before early) old stop.place (stage_of after late) new
  pub stops : StopsAt (drop stop.place script) (router_of after late) stop.asked
  pub later : round.place ≤ stop.place
  pub inside : stop.place ≤ length script
  pub short : stop.place ≤ 65535
  pub few : applied_in after ≤ stop.place
  pub lines : late.lines ≡ lines_run stop.place stop.asked
  pub history : IsHistory (stage_of before early) → IsHistory (stage_of after late)
  pub home : IsHome (applied_in before) round.first (length before.plane.board.gathered) before.plane.board.workers
      (span packets round.first round.to) before.plane.board after.plane.board places
  pub none : NoneOut after.plane.board
  pub fewer : frames (span packets round.first round.to) ≤ 2 ^ 24
  pub passes : (n : ℕ) → left_of (slice_index before.plane.board.rests n) ≤ left_of (slice_index after.plane.board.rests n) + 2 ^ 33
  pub workers : after.plane.board.workers ≡ before.plane.board.workers
