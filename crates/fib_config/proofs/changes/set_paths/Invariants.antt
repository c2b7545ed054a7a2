use Rattle.std.proofs.Common.{◌≡◌, take}
use Rattle.fib_resolve.specs.Edits.{set_paths}
use Rattle.fib_config.proofs.changes.set_paths.Given as goal

abbrev pub invariant-loop-p : goal.invariant-loop-p
invariant-loop-p l = l.out ≡ set_paths l.old (take l.p-index l.paths)
