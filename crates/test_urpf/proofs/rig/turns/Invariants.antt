use Rattle.test_urpf.specs.Rigs.{IsRigged}
use Rattle.test_urpf.proofs.rig.turns.Given as goal

abbrev pub invariant-loop-turn : goal.invariant-loop-turn
invariant-loop-turn l = IsRigged l.rig
