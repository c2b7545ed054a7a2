use Rattle.std.proofs.Common.{◌≡◌, take, map}
use Rattle.std.specs.List.{list_any}
use Rattle.test_plain.specs.inner.Rows.{usable_now}
use Rattle.test_plain.proofs.rounds.next_marks.Given as goal

abbrev pub invariant-loop-row : goal.invariant-loop-row
invariant-loop-row l = l.out.items ≡ map (λ row. list_any (usable_now l.marks) row) (take l.row-index l.rows)
