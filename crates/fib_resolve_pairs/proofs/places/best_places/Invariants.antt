use Rattle.std.proofs.Common.{◌≡◌, ◌<◌, drop, length}
use Rattle.std.specs.Prelude.{IfSome}
use Rattle.std.specs.HashMap.{get}
use Rattle.fib_addr.specs.Prefixes.{Prefix, same_prefix}
use Rattle.fib_resolve.specs.Pairs.{best_pair}
use Rattle.fib_resolve_pairs.specs.inner.Places.{pair_at}
use Rattle.fib_resolve_pairs.proofs.places.best_places.Given as goal

abbrev pub invariant-loop-i : goal.invariant-loop-i
invariant-loop-i l = record {
  inside : (p : Prefix) → IfSome (get same_prefix l.places p) (λ k. k < length l.pairs);
  best : (p : Prefix) → pair_at l.pairs (get same_prefix l.places p) ≡ best_pair p (drop l.i l.pairs);
}
