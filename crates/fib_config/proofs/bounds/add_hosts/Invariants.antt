use Rattle.std.proofs.Common.{◌≡◌, ◌++◌, map, take}
use Rattle.fib_addr.specs.Prefixes.{host}
use Rattle.fib_config.proofs.bounds.add_hosts.Given as goal

abbrev pub invariant-loop-hop : goal.invariant-loop-hop
invariant-loop-hop l = l.out.items ≡ l.fn.out.items ++ map host (take l.hop-index l.hops)
