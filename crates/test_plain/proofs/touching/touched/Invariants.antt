use Rattle.std.proofs.Common.{◌≡◌, filter, take}
use Rattle.fib_resolve.specs.Touched.{is_touched}
use Rattle.test_plain.proofs.touching.touched.Given as goal

abbrev pub invariant-loop-e : goal.invariant-loop-e
invariant-loop-e l = l.out.items ≡ filter (is_touched l.before l.after) (take l.e-index l.e-items)
