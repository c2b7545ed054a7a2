use Rattle.std.proofs.Common.{◌≡◌, ◌++◌, take}
use Rattle.std.specs.Prelude.{flat_map}
use Rattle.fib_follow_features.specs.FoundBy.{path_features}
use Rattle.fib_follow_features.proofs.found_by.add_paths.Given as goal

abbrev pub invariant-loop-path : goal.invariant-loop-path
invariant-loop-path l = l.out.items ≡ l.fn.out.items ++ flat_map (path_features l.e) (take l.path-index l.paths)
