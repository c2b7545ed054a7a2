use Rattle.std.proofs.Common.{◌≡◌, ◌+◌, drop}
use Rattle.fib_config.specs.Undone.{place_of}
use Rattle.fib_config.specs.inner.Digest.{is_neighbor}
use Rattle.fib_config.proofs.digest.searched_neighbor.Given as goal

abbrev pub invariant-loop-place : goal.invariant-loop-place
invariant-loop-place l = l.place + place_of (is_neighbor l.interface l.addr) (drop l.place l.neighbors) ≡ place_of (is_neighbor l.interface l.addr) l.neighbors
