-- What was written.
use Rattle.std.specs.Prelude.{ℕ, ◌≡◌, ◌+◌, ◌-◌, ◌∷◌, [], List, Option, Some, None, take, min}
use Rattle.fib_capture.specs.declared.packet.Packet.{Packet}
use Rattle.fib_worker_crew.specs.Packets.{IsOf, Matched, span}
use Rattle.fib_worker_crew.specs.Results.{Kept, numbered, results_of}
use Rattle.fib_outside.specs.Outside.{Appends}
use Rattle.fib_rounds_taps.specs.declared.tap.TapFault.{TapFault}
use Rattle.fib_rounds_taps.specs.declared.tap.TapFault.TheVariants as taps
use Rattle.fib_rounds.specs.declared.fault.RunFault.{RunFault}
use Rattle.fib_rounds.specs.declared.fault.RunFault.TheVariants as runs

-- the output grew by the first bytes of this text, all or some or none
abbrev pub AppendsSome : Option (List ℕ) → Option (List ℕ) → List ℕ → Type 0
AppendsSome before after text = (n : ℕ) × Appends before after (take n text)

-- the output grew by one of these texts
abbrev pub Gains : (List ℕ → Type 0) → Option (List ℕ) → Option (List ℕ) → Type 0
Gains P before after = (text : List ℕ) × P text × Appends before after text

-- the fault of a run whose tap failed
abbrev pub fault_of_tap : TapFault → RunFault
fault_of_tap taps.Fault = runs.Write
fault_of_tap taps.Memory = runs.Memory

-- a place has the results of the packets from one place up to another, with their numbers
pub record IsLaid (packets : List Packet) (at next : ℕ) (kept : Kept) : Type 0 where
  pub of : Matched IsOf (span packets at next) (results_of kept.list)
  pub list : kept.list ≡ numbered at (span packets at next) (results_of kept.list)

-- the places have the results of the packets from one place up to another, 256 each and the last one fewer
abbrev pub AreLaid : List Packet → ℕ → ℕ → List (Option Kept) → Type 0
AreLaid packets at to [] = at ≡ to
AreLaid packets at to (None ∷ places) = ⊥
AreLaid packets at to (Some kept ∷ places) =
    IsLaid packets at (at + min (to - at) 256) kept × AreLaid packets (at + min (to - at) 256) to places
