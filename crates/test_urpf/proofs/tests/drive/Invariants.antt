use Rattle.test_urpf.specs.Rigs.{IsRigged}
use Rattle.test_urpf.proofs.tests.drive.Given as goal

abbrev pub invariant-loop-number : goal.invariant-loop-number
invariant-loop-number l = IsRigged l.rig
