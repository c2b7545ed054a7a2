-- Queued prefixes, in the order in which they are taken.
use Rattle.std.specs.Prelude.{◌≡◌, ℕ, ◌+◌, ◌*◌, ◌^◌, ◌≤◌, List, [], ◌∷◌, Option, Some, None, if◌then◌else◌}
use Rattle.fib_addr.specs.Prefixes.{Prefix, same_prefix}
use Rattle.fib_stack_queue.specs.declared.order.Queued.{Queued}

-- by bits, then by length
abbrev pub prefix_key : Prefix → ℕ
prefix_key e = 64 * e.bits + e.len

abbrev pub key_in : Queued → ℕ
key_in q = prefix_key q.prefix

-- by rank, then by bits, then by length
abbrev pub turn_key : Queued → ℕ
turn_key q = 64 * (2 ^ 32 * q.rank + q.prefix.bits) + q.prefix.len

-- the rank under which the prefix is queued; None where it isn't
abbrev pub rank_in : List Queued → Prefix → Option ℕ
rank_in [] e = None
rank_in (q ∷ qs) e = if same_prefix q.prefix e then Some q.rank else rank_in qs e

-- it is queued, and nothing is queued under a smaller rank
pub record IsLeast (queue : List Queued) (q : Queued) : Type 0 where
  pub here : rank_in queue q.prefix ≡ Some q.rank
  pub least : (d : Prefix) (rank : ℕ) → rank_in queue d ≡ Some rank → q.rank ≤ rank
