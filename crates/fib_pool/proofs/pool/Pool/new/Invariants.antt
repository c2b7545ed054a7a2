use Rattle.std.proofs.Common.{◌≡◌, ◌<◌, ◌≤◌, ◌+◌, ℕ, length, get_or, vec_capacity}
use Rattle.fib_pool.proofs.pool.Pool.new.Given as goal

abbrev pub invariant-loop-number : goal.invariant-loop-number
invariant-loop-number l = record {
  long : length l.idle.items + 1 ≡ l.number;
  items : (i : ℕ) → i < length l.idle.items → get_or l.idle.items i 0 + (i + 1) ≡ l.objects;
  room : l.objects ≤ vec_capacity l.idle;
}
