use Rattle.std.proofs.Common.{◌≡◌, ℕ}
use Rattle.std.specs.Prelude.{None}
use Rattle.trial_plain.specs.Seats.{IsHeld, IsUnchanged, seats_in}
use Rattle.trial_plain.proofs.held.hops.Given as goal

abbrev pub invariant-loop-count : goal.invariant-loop-count
invariant-loop-count l = record {
  held : (n : ℕ) → IsHeld n None (seats_in l.initial.control) → IsHeld n None (seats_in l.control);
  kept : IsUnchanged l.initial.control l.control;
}
