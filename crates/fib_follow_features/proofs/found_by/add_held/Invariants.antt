use Rattle.std.proofs.Common.{◌≡◌, ◌++◌, take}
use Rattle.std.specs.Prelude.{flat_map}
use Rattle.fib_follow_features.specs.FoundBy.{held_list, written_features}
use Rattle.fib_follow_features.proofs.found_by.add_held.Given as goal

abbrev pub invariant-loop-q : goal.invariant-loop-q
invariant-loop-q l = l.out.items ≡ l.fn.out.items ++ flat_map (λ q. written_features (held_list l.lists q)) (take l.q-index l.held)
