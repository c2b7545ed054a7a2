use Rattle.std.proofs.Common.{◌≡◌, take, map}
use Rattle.test_plain.specs.inner.Rows.{facts_of_path}
use Rattle.test_plain.proofs.facts.row.Given as goal

abbrev pub invariant-loop-p : goal.invariant-loop-p
invariant-loop-p l = l.out ≡ map (facts_of_path l.meaning l.e) (take l.p-index l.p-items)
