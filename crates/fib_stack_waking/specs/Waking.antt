-- Prefixes that are woken or touched, and queued under their ranks.
use Rattle.std.specs.Prelude.{◌≡◌, ℕ, Bool, List, Some}
use Rattle.std.specs.List.{AllByRecursion, list_any}
use Rattle.fib_addr.specs.Prefixes.{Prefix, same_prefix}
use Rattle.fib_stack_queue.specs.Queues.{rank_in}
use Rattle.fib_stack_queue.specs.declared.order.Queued.{Queued}

abbrev pub is_among : List Prefix → Prefix → Bool
is_among ds d = list_any (λ x. same_prefix x d) ds

abbrev pub are_among : List Queued → Prefix → Bool
are_among qs d = list_any (λ q. same_prefix q.prefix d) qs

abbrev pub have_ranks : (Prefix → ℕ) → List Queued → Type 0
have_ranks rank qs = AllByRecursion (λ q. q.rank ≡ rank q.prefix) qs

-- each queued prefix has its rank
abbrev pub AreRanked : (Prefix → ℕ) → List Queued → Type 0
AreRanked rank queue = (d : Prefix) (r : ℕ) → rank_in queue d ≡ Some r → r ≡ rank d
