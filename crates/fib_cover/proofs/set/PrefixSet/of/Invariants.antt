use Rattle.std.proofs.Common.{take}
use Rattle.std.specs.Prelude.{Contains, ◌↔◌}
use Rattle.fib_addr.specs.Prefixes.{Prefix}
use Rattle.fib_cover.proofs.set.PrefixSet.of.Given as goal

abbrev pub invariant-loop-p : goal.invariant-loop-p
invariant-loop-p l = (p : Prefix) → Contains l.set p ↔ Contains (take l.p-index l.prefixes) p
