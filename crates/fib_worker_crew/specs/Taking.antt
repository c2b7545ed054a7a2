-- The packets of a capture that a round takes.
use Rattle.std.specs.Prelude.{ℕ, List}
use Rattle.fib_capture.specs.Captures.{Capture}
use Rattle.fib_capture.specs.declared.packet.Packet.{Packet}
use Rattle.fib_worker_crew.specs.Frames.{frames}
use Rattle.fib_worker_crew.specs.Packets.{span}
use Rattle.fib_worker_crew.specs.declared.claims.Taken.{Taken}

abbrev pub packets_taken : Capture → Taken → List Packet
packets_taken c t = span c.packets t.first t.to

abbrev pub frames_taken : Capture → Taken → ℕ
frames_taken c t = frames (packets_taken c t)
