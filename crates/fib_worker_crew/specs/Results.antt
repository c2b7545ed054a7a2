-- The results that a worker keeps, and what it makes of some packets.
use Rattle.std.specs.Prelude.{ℕ, ◌≡◌, ◌≤◌, ◌+◌, ◌*◌, ◌++◌, ◌∷◌, [], List, length}
use Rattle.fib_core_results.specs.declared.record.Record.{Record}
use Rattle.fib_core_results.specs.Trails.{AtLeast}
use Rattle.fib_capture.specs.declared.packet.Packet.{Packet}
use Rattle.fib_capture.specs.declared.packet.Packet.TheVariants.{Flow, NotIpv4, BadHeader}
use Rattle.fib_core.specs.Trails.{Trail, Follows, result_of}
use Rattle.fib_core_lawful.specs.State.{left_of}
use Rattle.fib_core_board.specs.Crews.{Seated}
use Rattle.fib_worker_crew.specs.Packets.{Matched, IsAsked}

-- results with their packets' numbers, and the room for more
pub record Kept : Type 0 where
  pub list : List (ℕ × Record)
  pub spare : ℕ

-- the results with the numbers of the flows, which are numbered with the other packets from n
abbrev pub numbered : ℕ → List Packet → List Record → List (ℕ × Record)
numbered n [] results = []
numbered n (NotIpv4 ∷ packets) results = numbered (n + 1) packets results
numbered n (BadHeader ∷ packets) results = numbered (n + 1) packets results
numbered n (Flow a h ∷ packets) [] = []
numbered n (Flow a h ∷ packets) (r ∷ results) = (n, r) ∷ numbered (n + 1) packets results

abbrev pub results_of : List (ℕ × Record) → List Record
results_of [] = []
results_of (p ∷ list) = p.1 ∷ results_of list

-- the result is that of the trail, which follows its address and hash
pub record IsResultOf (t : Trail) (r : Record) : Type 0 where
  pub follows : Follows r.addr r.hash t.loads
  pub result : r ≡ result_of t r.addr r.hash

-- and so one by one
abbrev pub Told : List Trail → List Record → Type 0
Told [] [] = Unit {0}
Told [] (r ∷ results) = ⊥
Told (t ∷ trails) [] = ⊥
Told (t ∷ trails) (r ∷ results) = IsResultOf t r × Told trails results

-- a worker forwarded these packets, numbered from n: its past grew by one trail a flow, in order, and the list by their results with the packets'
-- numbers. It made a pass a flow and no other: each raises its pass word by two, and loads the version twice
pub record HasForwarded (before after : Seated) (n : ℕ) (packets : List Packet) (old new : List (ℕ × Record)) : Type 0 where
  pub mine : List Record
  pub asked : Matched (IsAsked before.worker.knows) packets mine
  pub list : new ≡ old ++ numbered n packets mine
  pub trails : List Trail
  pub past : after.worker.past ≡ before.worker.past ++ trails
  pub told : Told trails mine
  pub passes : after.worker.pass ≡ before.worker.pass + 2 * length trails
  pub loads : after.worker.version_loads ≡ before.worker.version_loads + 2 * length trails
  pub id : after.id ≡ before.id
  pub number : after.worker.number ≡ before.worker.number
  pub claims : after.worker.claims ≡ before.worker.claims
  pub knows : AtLeast before.worker.knows after.worker.knows
  pub left : left_of before.worker.pass ≤ left_of after.worker.pass + length packets
