-- One step more of each recursion on a number.
use Rattle.std.proofs.Common.{◌≡◌, ℕ, ◌+◌, ◌++◌, ◌∷◌, [], List, refl, add-one}
use Rattle.fib_capture.specs.declared.packet.Packet.{Packet}
use Rattle.fib_soak.specs.Draws.{repeated, after_4}
use Rattle.fib_soak.specs.Flows.{flow_at, flows}
use Rattle.fib_soak.specs.Scripts.{lines_for, interface_lines, interfaces, round_lines, after_round, rounds}

pub repeated_none : (f : ℕ → ℕ) (x : ℕ) → repeated f 0 x ≡ x
unfolding repeated
repeated_none f x = refl

pub repeated_more : (f : ℕ → ℕ) (n x : ℕ) → repeated f (n + 1) x ≡ f (repeated f n x)
unfolding repeated
repeated_more f n x = rw add-one refl

pub flows_none : (x : ℕ) → flows 0 x ≡ []
unfolding flows
flows_none x = refl

pub flows_more : (n x : ℕ) → flows (n + 1) x ≡ flows n x ++ flow_at (repeated after_4 n x) ∷ []
unfolding flows
flows_more n x = rw add-one refl

pub lines_for_none : (f : ℕ → List ℕ) → lines_for f 0 ≡ []
unfolding lines_for
lines_for_none f = refl

pub lines_for_more : (f : ℕ → List ℕ) (n : ℕ) → lines_for f (n + 1) ≡ lines_for f n ++ f n ∷ []
unfolding lines_for
lines_for_more f n = rw add-one refl

pub interfaces_none : interfaces 0 ≡ []
unfolding interfaces
interfaces_none = refl

pub interfaces_more : (n : ℕ) → interfaces (n + 1) ≡ interfaces n ++ interface_lines n
unfolding interfaces
interfaces_more n = rw add-one refl

pub rounds_none : (x : ℕ) → rounds 0 x ≡ []
unfolding rounds
rounds_none x = refl

pub rounds_more : (n x : ℕ) → rounds (n + 1) x ≡ rounds n x ++ round_lines (repeated after_round n x)
unfolding rounds
rounds_more n x = rw add-one refl

-- in the code's form
pub flows_pushed : (n x state : ℕ) (told after : List Packet) (flow : Packet) → told ≡ flows n x → state ≡ repeated after_4 n x → flow ≡ flow_at state → after ≡ told ++ flow ∷ [] → after ≡ flows (n + 1) x
flows_pushed n x state told after flow t s f a = rw (flows_more, a, f, s, t) refl
