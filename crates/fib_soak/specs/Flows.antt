-- The generated flows.
use Rattle.std.specs.Prelude.{ℕ, zero, suc, ◌+◌, ◌*◌, ◌^◌, ◌++◌, ◌∷◌, [], List}
use Rattle.fib_soak.specs.Draws.{next, draw, wide, repeated, after_2, after_3, after_4}
use Rattle.fib_capture.specs.declared.packet.Packet.{Packet}
use Rattle.fib_capture.specs.declared.packet.Packet.TheVariants.{Flow}

-- the address 100.p.q.r
abbrev pub target : ℕ → ℕ → ℕ → ℕ
target p q r = 100 * 2 ^ 24 + p * 2 ^ 16 + q * 2 ^ 8 + r

-- the flow of four draws from state x
unfoldable pub flow_at : ℕ → Packet
flow_at x = Flow (target (draw 8 x) (draw 250 (next x)) (draw 256 (after_2 x))) (wide (after_3 x))

-- the first n flows from state x
unfoldable pub flows : ℕ → ℕ → List Packet
flows zero x = []
flows (suc n) x = flows n x ++ flow_at (repeated after_4 n x) ∷ []

unfoldable pub soak_flows : ℕ → List Packet
soak_flows seed = flows 40000 (seed + 1)
