use Rattle.std.proofs.Common.{◌≡◌, ◌++◌, drop, reverse}
use Rattle.std.specs.Set.{unique_keys}
use Rattle.std.specs.List.Sorted.{IsPermutation}
use Rattle.fib_resolve.specs.Pairs.{same_pair}
use Rattle.fib_resolve_pairs.proofs.keyed.distinct_pairs.Given as goal

abbrev pub invariant-loop-i : goal.invariant-loop-i
invariant-loop-i l = record {
  out : reverse l.out.items ≡ unique_keys same_pair (drop l.i (l.pairs ++ l.more));
  seen : IsPermutation (unique_keys same_pair (drop l.i (l.pairs ++ l.more))) l.seen.keys;
}
