use Rattle.std.proofs.Common.{◌≡◌, ◌-◌}
use Rattle.fib_resolve.specs.Resolution.{follow, resolve}
use Rattle.test_plain.proofs.ways.resolve.Given as goal

abbrev pub invariant-loop-n : goal.invariant-loop-n
invariant-loop-n l =
    (follow l.view (l._n-end - l._n) l.e l.left).end ≡ resolve l.view l.fn.addr l.fn.hash
