use Rattle.std.proofs.Common.{◌≡◌, ◌*◌, ◌≤◌, take}
use Rattle.std.specs.Prelude.{sum_by}
use Rattle.fib_buckets.specs.Shares.{floor_of}
use Rattle.fib_buckets.proofs.extra.Given as goal

abbrev pub invariant-loop-w : goal.invariant-loop-w
invariant-loop-w l = (l.given ≡ sum_by (floor_of l.total) (take l.w-index l.weights)) × (l.given ≤ 4080 * l.w-index)
