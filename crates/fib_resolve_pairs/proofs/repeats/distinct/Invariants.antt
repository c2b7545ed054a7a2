use Rattle.std.proofs.Common.{◌≡◌, drop, reverse}
use Rattle.std.specs.Set.{unique_keys}
use Rattle.std.specs.List.Sorted.{IsPermutation}
use Rattle.fib_resolve_pairs.proofs.repeats.distinct.Given as goal

abbrev pub invariant-loop-i : goal.invariant-loop-i
invariant-loop-i g l = record {
  out : reverse l.out.items ≡ unique_keys g.T.PartialEq.eq (drop l.i l.items);
  seen : IsPermutation (unique_keys g.T.PartialEq.eq (drop l.i l.items)) l.seen.keys;
}
