use Rattle.std.proofs.Common.{take}
use Rattle.fib_follow_features.specs.Holders.{Notes}
use Rattle.fib_follow_features.proofs.features.Features.note.Given as goal

abbrev pub invariant-loop-feature : goal.invariant-loop-feature
invariant-loop-feature l = Notes l.fn.self l.self l.e (take l.feature-index l.features)
