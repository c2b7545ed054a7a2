use Rattle.std.proofs.Common.{◌<◌, ◌^◌, take}
use Rattle.std.specs.Prelude.{Contains}
use Rattle.fib_resolve.specs.declared.types.Neighbor.{Neighbor}
use Rattle.fib_follow_looked.proofs.plain.see_each.Given as goal

abbrev pub invariant-loop-place : goal.invariant-loop-place
invariant-loop-place l = (m : Neighbor) → Contains (take l.place l.neighbors) m → m.addr < 2 ^ 32
