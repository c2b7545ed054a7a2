use Rattle.std.proofs.Common.{◌≡◌, take, map}
use Rattle.test_plain.specs.inner.Rows.{facts_of}
use Rattle.test_plain.proofs.facts.rows.Given as goal

abbrev pub invariant-loop-e : goal.invariant-loop-e
invariant-loop-e l = l.out.items ≡ map (facts_of l.meaning) (take l.e-index l.e-items)
