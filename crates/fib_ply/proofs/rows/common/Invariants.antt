use Rattle.std.specs.Prelude.{◌≡◌, ℕ, ◌-◌, ◌/◌, ◌^◌, ◌<◌, ◌≤◌}
use Rattle.fib_ply.specs.inner.Upto.{Begins}
use Rattle.fib_ply.proofs.rows.common.Given as goal

abbrev pub invariant-loop-n : goal.invariant-loop-n
invariant-loop-n l = record {
  within : l.n ≤ l.fn.len;
  fits : l.block < 2 ^ l.n;
  part : l.block ≡ l.fn.top / 2 ^ (l.fn.len - l.n);
  greatest : (k : ℕ) → l.n < k → k ≤ l.fn.len → Begins l.fn.prefix k (l.fn.top / 2 ^ (l.fn.len - k)) → ⊥;
}

abbrev pub decreases-loop-n : goal.decreases-loop-n
decreases-loop-n l = l.n
