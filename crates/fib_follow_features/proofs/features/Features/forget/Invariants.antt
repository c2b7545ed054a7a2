use Rattle.std.proofs.Common.{take}
use Rattle.fib_follow_features.specs.Holders.{Forgets}
use Rattle.fib_follow_features.proofs.features.Features.forget.Given as goal

abbrev pub invariant-loop-feature : goal.invariant-loop-feature
invariant-loop-feature l = Forgets l.fn.self l.self l.e (take l.feature-index l.old) l.new
