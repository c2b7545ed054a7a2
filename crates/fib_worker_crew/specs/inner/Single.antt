-- What forwarding one packet makes of a worker and its list.
use Rattle.std.specs.Prelude.{ℕ, ◌≡◌, ◌++◌, ◌∷◌, [], List}
use Rattle.fib_core_results.specs.declared.record.Record.{Record}
use Rattle.fib_capture.specs.declared.packet.Packet.{Packet}
use Rattle.fib_capture.specs.declared.packet.Packet.TheVariants.{Flow, NotIpv4, BadHeader}
use Rattle.fib_core_board.specs.Crews.{Seated}
use Rattle.fib_worker.specs.Passes.{HasForwarded as HasPassed}

-- it forwarded one packet, of that number, where that is a flow
abbrev pub HasForwardedOne : Seated → Seated → ℕ → Packet → List (ℕ × Record) → List (ℕ × Record) → Type 0
HasForwardedOne before after n (Flow a h) old new = (r : Record) × HasPassed a h before after r × (new ≡ old ++ (n, r) ∷ [])
HasForwardedOne before after n NotIpv4 old new = (after ≡ before) × (new ≡ old)
HasForwardedOne before after n BadHeader old new = (after ≡ before) × (new ≡ old)
