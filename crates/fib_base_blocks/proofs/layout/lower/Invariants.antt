use Rattle.std.proofs.Common.{◌≡◌, ◌-◌}
use Rattle.fib_base_blocks.specs.inner.Layout.{changed}
use Rattle.fib_base_blocks.proofs.layout.lower.Given as goal

abbrev pub invariant-starts : goal.invariant-starts
invariant-starts l = l.starts.items ≡ changed (λ n. n - 1) l.from l.place l.fn.starts.items
