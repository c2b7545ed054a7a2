use Rattle.std.proofs.Common.{◌≡◌, false, take}
use Rattle.std.specs.List.{list_any}
use Rattle.fib_resolve.specs.Pairs.{chosen}
use Rattle.fib_resolve.specs.Touched.{kind_changes}
use Rattle.test_plain.proofs.touching.changes.Given as goal

abbrev pub invariant-loop-place : goal.invariant-loop-place
invariant-loop-place l =
    (l.paths ≡ chosen l.before l.e)
    × (list_any (λ p. kind_changes l.before l.after l.e p.need p.kind) (take l.place l.paths) ≡ false)
