use Rattle.std.proofs.Common.{ℕ, List, drop}
use Rattle.fib_resolve.specs.declared.types.Path.{Path}
use Rattle.fib_follow_write.specs.Written.{IsSpent}
use Rattle.fib_follow_write.specs.inner.Spent.{IsLeft}
use Rattle.fib_follow_write.proofs.lists.give_pairs.Given as goal

abbrev pub invariant-pairs : goal.invariant-pairs
invariant-pairs l = (g : List Path → ℕ) → IsSpent g l.fn.lists l.pairs → IsLeft g l.fn.lists l.lists (drop l.place l.pairs)
