use Rattle.std.proofs.Common.{◌≡◌, ◌+◌, ℕ, length, drop}
use Rattle.fib_rounds_homing.specs.Places.{joined, parts_of}
use Rattle.fib_rounds.specs.Counts.{IsSmall}
use Rattle.fib_rounds.specs.Summaries.{with_ends}
use Rattle.fib_rounds.proofs.round.count_places.Given as goal

-- the counts so far, and then those of the places that are left
abbrev pub invariant-loop-place : goal.invariant-loop-place
invariant-loop-place l = record {
  counts : with_ends l.counts (joined (parts_of (drop l.place-index l.places))) ≡ with_ends l.fn.counts (joined (parts_of l.places));
  small : (n : ℕ) → IsSmall n l.fn.counts → (m : ℕ) × IsSmall m l.counts × (m + length (joined (parts_of (drop l.place-index l.places))) ≡ n + length (joined (parts_of l.places)));
}
