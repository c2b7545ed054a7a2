use Rattle.std.proofs.Common.{◌≡◌, ◌≤◌, ◌<◌, ◌-◌, ℕ, get_or}
use Rattle.fib_union.proofs.newest.lower.Given as goal

abbrev pub invariant-loop-number : goal.invariant-loop-number
invariant-loop-number l = record {
  done : (k d : ℕ) → k < l.number-index → get_or l.number-items k d ≡ get_or l.fn.numbers k d - l.by;
  rest : (k d : ℕ) → l.number-index ≤ k → get_or l.number-items k d ≡ get_or l.fn.numbers k d;
}
