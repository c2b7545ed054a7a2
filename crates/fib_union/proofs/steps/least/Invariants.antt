use Rattle.std.proofs.Common.{◌≡◌, take}
use Rattle.fib_union.specs.inner.Fields.{least_of}
use Rattle.fib_union.proofs.steps.least.Given as goal

abbrev pub invariant-loop-worker : goal.invariant-loop-worker
invariant-loop-worker l = l.least ≡ least_of l.count (take l.worker-index l.progress)
