use Rattle.std.proofs.Common.{◌≡◌, take}
use Rattle.std.specs.Prelude.{flat_map}
use Rattle.test_plain.specs.inner.Exits.{exits_of}
use Rattle.test_plain.proofs.possible.exits.Given as goal

abbrev pub invariant-loop-e : goal.invariant-loop-e
invariant-loop-e l = l.out.items ≡ flat_map (exits_of l.view) (take l.e-index l.e-items)
