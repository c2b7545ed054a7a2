-- Traced passes, and what is printed of them.
use Rattle.std.specs.Prelude.{◌≡◌, ℕ, ◌+◌, ◌++◌, ◌∷◌, [], List, map}
use Rattle.fib_resolve.specs.declared.types.Tables.{Tables}
use Rattle.fib_core_results.specs.Trails.{AtLeast, version_at}
use Rattle.fib_capture.specs.declared.packet.Packet.{Packet}
use Rattle.fib_capture.specs.declared.packet.Packet.TheVariants.{Flow, NotIpv4, BadHeader}
use Rattle.fib_core.specs.Trails.{Trail, Follows, IsLawfulTrail, result_of}
use Rattle.fib_core_steady.specs.Undisturbed.{IsSteadyTrail}
use Rattle.fib_worker_crew.specs.Packets.{Matched}
use Rattle.fib_print.specs.Packets.{packet_text, not_ipv4_text, bad_header_text}
use Rattle.fib_trace.specs.Texts.{loads_text}
use Rattle.fib_trace.specs.Traces.{coded}
use Rattle.fib_tracer.specs.declared.log.Traced.{Traced}

-- The pass is that of a trail which follows the packet and tells these loads; lawful and steady over all tables so far, and of no version before k. It is of
-- none after the last, since a lawful trail's window lies in the history.
pub record IsPassOf (k : ℕ) (H : List Tables) (a h : ℕ) (trail : Trail) (p : Traced) : Type 0 where
  pub follows : Follows a h trail.loads
  pub lawful : IsLawfulTrail H trail
  pub steady : IsSteadyTrail H trail
  pub later : AtLeast (version_at k) trail.lo
  pub loads : trail.loads ≡ coded p.loads
  pub result : p.result ≡ result_of trail a h

abbrev pub IsTraced : ℕ → List Tables → ℕ → ℕ → Traced → Type 0
IsTraced k H a h p = (trail : Trail) × IsPassOf k H a h trail p

-- a line for each packet, numbered from n; the flows print the passes in turn, each with a line for every load
unfoldable pub passes_text : Tables → ℕ → List Packet → List Traced → List ℕ
passes_text S n [] passes = []
passes_text S n (NotIpv4 ∷ packets) passes = not_ipv4_text n ++ passes_text S (n + 1) packets passes
passes_text S n (BadHeader ∷ packets) passes = bad_header_text n ++ passes_text S (n + 1) packets passes
passes_text S n (Flow a h ∷ packets) [] = []
passes_text S n (Flow a h ∷ packets) (p ∷ passes) =
    (packet_text S n p.result ++ loads_text S 0 p.loads) ++ passes_text S (n + 1) packets passes

-- The flows of these packets have one pass each, in order, and these are their trails.
pub record AreTraced (k : ℕ) (H : List Tables) (packets : List Packet) (home : List Trail) (told : List Traced) : Type 0 where
  pub made : List (Trail × Traced)
  pub each : Matched (λ a h m. IsPassOf k H a h m.0 m.1) packets made
  pub trails : home ≡ map (λ m. m.0) made
  pub passes : told ≡ map (λ m. m.1) made
