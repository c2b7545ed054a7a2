-- Packets, and what there is one of for each flow.
use Rattle.std.specs.Prelude.{ℕ, ◌≡◌, ◌-◌, ◌∷◌, [], List, take, drop}
use Rattle.fib_core_results.specs.declared.record.Record.{Record}
use Rattle.fib_core_results.specs.declared.record.Version.{Version}
use Rattle.fib_core_results.specs.Trails.{AtLeast}
use Rattle.fib_capture.specs.declared.packet.Packet.{Packet}
use Rattle.fib_capture.specs.declared.packet.Packet.TheVariants.{Flow, NotIpv4, BadHeader}

-- the packets from one place up to another
abbrev pub span : List Packet → ℕ → ℕ → List Packet
span packets from to = take (to - from) (drop from packets)

-- there is one for each flow, in order; other packets have none
abbrev pub Matched : {X : Type 0} → (ℕ → ℕ → X → Type 0) → List Packet → List X → Type 0
Matched P [] [] = Unit {0}
Matched P [] (r ∷ results) = ⊥
Matched P (NotIpv4 ∷ packets) results = Matched P packets results
Matched P (BadHeader ∷ packets) results = Matched P packets results
Matched P (Flow a h ∷ packets) [] = ⊥
Matched P (Flow a h ∷ packets) (r ∷ results) = P a h r × Matched P packets results

-- the result is of that address and hash
pub record IsOf (a h : ℕ) (r : Record) : Type 0 where
  pub addr : r.addr ≡ a
  pub hash : r.hash ≡ h

-- and it begins no earlier than with that version
pub record IsAsked (low : Version) (a h : ℕ) (r : Record) : Type 0 where
  pub of : IsOf a h r
  pub later : AtLeast low r.lo
