use Rattle.std.proofs.Common.{◌≡◌, map}
use Rattle.fib_resolve.specs.Pairs.{entries}
use Rattle.fib_resolve.specs.Forwarding.{forwards_in}
use Rattle.test_plain.proofs.rounds.marks.Given as goal

abbrev pub invariant-loop-n : goal.invariant-loop-n
invariant-loop-n l = l.marks.items ≡ map (forwards_in l.fn.tables l._n) (entries l.fn.tables)
