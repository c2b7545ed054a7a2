use Rattle.std.proofs.Common.{◌≡◌, ◌<◌, ℕ, subst}
use Rattle.fib_addr.specs.Prefixes.{Prefix}
use Rattle.fib_pool.specs.declared.object.AdjacencyRecord.{AdjacencyRecord}
use Rattle.fib_stack_ledger.specs.Ledgers.{Book, times, total, uses_in}
use Rattle.fib_stack_ledger.proofs.Books.{user_of}
use Rattle.fib_stack_ledger.proofs.ledger.Ledger.tells.Goals as goal

pub returns : goal.returns
returns c = subst (λ (b : Book). (m : AdjacencyRecord) → 0 < total b.rows m → (e : Prefix) × (0 < times m (uses_in b.rows e))) c.self.view_is (λ m lt. user_of c.self.inside.known.entries m c.self.invariant.0 lt)
