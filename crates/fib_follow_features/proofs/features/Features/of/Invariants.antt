use Rattle.std.proofs.Common.{take}
use Rattle.fib_follow_features.specs.FoundBy.{AreExact}
use Rattle.fib_follow_features.proofs.features.Features.of.Given as goal

abbrev pub invariant-rows : goal.invariant-rows
invariant-rows l = AreExact l.lists l.order (take l.place l.rows) l.found
