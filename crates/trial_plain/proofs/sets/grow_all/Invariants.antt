use Rattle.fib_control_quiet.specs.Early.{IsTried}
use Rattle.trial_plain.proofs.sets.grow_all.Given as goal

abbrev pub invariant-loop-turn : goal.invariant-loop-turn
invariant-loop-turn g l = IsTried (g.P.Objects.promise l.on) l.table (g.P.Objects.view l.on)
