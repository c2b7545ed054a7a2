-- The two lists of a queue say the same.
use Rattle.std.specs.Prelude.{◌≡◌, ℕ, ◌⊎◌, List, [], ◌∷◌, Some}
use Rattle.std.specs.List.{AllByRecursion}
use Rattle.fib_addr.specs.Prefixes.{IsPrefix}
use Rattle.fib_base_ordered.specs.Sets.{IsAscending, found}
use Rattle.fib_stack_queue.specs.Queues.{key_in, turn_key}
use Rattle.fib_stack_queue.specs.declared.order.Queued.{Queued}

abbrev pub IsIn : List Queued → Queued → Type 0
IsIn [] q = ⊥
IsIn (x ∷ xs) q = (x ≡ q) ⊎ IsIn xs q

-- the list in order of turns, and that by prefix
pub record AreInStep (order kept : List Queued) : Type 0 where
  pub ordered : IsAscending turn_key order
  pub prefixes : AllByRecursion (λ q. IsPrefix q.prefix) order
  pub real : AllByRecursion (λ q. found key_in kept (key_in q) ≡ Some q) order
  pub there : (k : ℕ) (q : Queued) → found key_in kept k ≡ Some q → IsIn order q
