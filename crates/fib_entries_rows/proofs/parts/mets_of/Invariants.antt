use Rattle.std.proofs.Common.{◌≡◌, map, take}
use Rattle.fib_entries_rows.specs.Known.{kind_met}
use Rattle.fib_entries_rows.proofs.parts.mets_of.Given as goal

abbrev pub invariant-loop-p : goal.invariant-loop-p
invariant-loop-p l = l.out.items ≡ map (λ p. kind_met l.meaning p.need p.kind) (take l.p-index l.paths)
