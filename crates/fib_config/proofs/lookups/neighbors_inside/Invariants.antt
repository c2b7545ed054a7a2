use Rattle.std.proofs.Common.{◌≡◌, ◌++◌, drop}
use Rattle.std.specs.Prelude.{filter}
use Rattle.fib_addr.specs.Prefixes.{contains}
use Rattle.fib_config.proofs.lookups.neighbors_inside.Given as goal

abbrev pub invariant-loop-place : goal.invariant-loop-place
invariant-loop-place l =
    l.out.items ++ filter (λ n. contains l.prefix n.addr) (drop l.place l.neighbors) ≡ filter (λ n. contains l.prefix n.addr) l.neighbors
