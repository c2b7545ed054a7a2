use Rattle.std.proofs.Common.{take}
use Rattle.fib_config.specs.inner.Digest.{AreKeys, route_key}
use Rattle.fib_config.proofs.digest.of_routes.Given as goal

abbrev pub invariant-loop-place : goal.invariant-loop-place
invariant-loop-place l = AreKeys route_key (take l.place l.routes) l.keys
