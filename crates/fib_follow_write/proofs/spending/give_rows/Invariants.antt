use Rattle.std.proofs.Common.{ℕ, List, drop}
use Rattle.std.specs.Prelude.{flat_map}
use Rattle.fib_resolve.specs.declared.types.Path.{Path}
use Rattle.fib_follow_write.specs.Written.{IsSpent, pairs_at}
use Rattle.fib_follow_write.specs.inner.Spent.{IsLeft}
use Rattle.fib_follow_write.proofs.spending.give_rows.Given as goal

abbrev pub invariant-rows : goal.invariant-rows
invariant-rows l = (g : List Path → ℕ) → IsSpent g l.fn.lists (flat_map (pairs_at l.rows) l.prefixes)
    → IsLeft g l.fn.lists l.lists (flat_map (pairs_at l.rows) (drop l.place l.prefixes))
