use Rattle.std.proofs.Common.{◌≡◌, ◌+◌, drop}
use Rattle.fib_resolve.specs.Tables.{is_route}
use Rattle.fib_config.specs.Undone.{place_of}
use Rattle.fib_config.proofs.digest.searched_route.Given as goal

abbrev pub invariant-loop-place : goal.invariant-loop-place
invariant-loop-place l = l.place + place_of (is_route l.prefix l.source) (drop l.place l.routes) ≡ place_of (is_route l.prefix l.source) l.routes
