use Rattle.std.proofs.Common.{ℕ, List, drop, map}
use Rattle.std.specs.Prelude.{flat_map}
use Rattle.fib_resolve.specs.declared.types.Path.{Path}
use Rattle.fib_follow_write.specs.Written.{IsSpent, paired_prefix, pairs_at}
use Rattle.fib_follow_write.specs.inner.Spent.{IsLeft}
use Rattle.fib_follow_write.proofs.spending.give_paired.Given as goal

abbrev pub invariant-rows : goal.invariant-rows
invariant-rows l = (g : List Path → ℕ) → IsSpent g l.fn.lists (flat_map (pairs_at l.rows) (map paired_prefix l.paired))
    → IsLeft g l.fn.lists l.lists (flat_map (pairs_at l.rows) (map paired_prefix (drop l.place l.paired)))
