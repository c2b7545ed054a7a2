use Rattle.std.proofs.Common.{◌≡◌, ◌++◌, take}
use Rattle.std.specs.Prelude.{flat_map}
use Rattle.fib_follow_features.specs.FoundBy.{pair_list, written_features}
use Rattle.fib_follow_features.proofs.found_by.add_pairs.Given as goal

abbrev pub invariant-loop-x : goal.invariant-loop-x
invariant-loop-x l = l.out.items ≡ l.fn.out.items ++ flat_map (λ x. written_features (pair_list x)) (take l.x-index l.pairs)
