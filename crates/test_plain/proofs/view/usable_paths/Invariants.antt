use Rattle.std.proofs.Common.{◌≡◌, take}
use Rattle.std.specs.Prelude.{filter}
use Rattle.fib_resolve.specs.Forwarding.{usable}
use Rattle.test_plain.proofs.view.usable_paths.Given as goal

abbrev pub invariant-loop-i : goal.invariant-loop-i
invariant-loop-i l = l.out.items ≡ filter (usable l.view l.e) (take l.i l.p-items)
