use Rattle.std.proofs.Common.{◌≡◌, ◌++◌, take}
use Rattle.std.specs.Prelude.{flat_map}
use Rattle.fib_resolve.specs.Sizes.{kind_adjacency}
use Rattle.fib_resolve_pairs.proofs.paths.add_adjacencies.Given as goal

abbrev pub invariant-loop-p : goal.invariant-loop-p
invariant-loop-p l = l.out.items ≡ l.fn.out.items ++ flat_map (λ p. kind_adjacency l.entry p.kind) (take l.p-index l.paths)
