use Rattle.fib_resolve.proofs.Touching.{untouched_wanted}
use Rattle.fib_resolve.proofs.laws.untouched_keeps_wanted.Goals as goal

pub returns : goal.returns
returns c S T e sound h t = untouched_wanted S T e sound h (λ p k to m. t p to k m)
