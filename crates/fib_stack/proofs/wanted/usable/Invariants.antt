use Rattle.std.proofs.Common.{◌≡◌, take}
use Rattle.std.specs.Prelude.{filter}
use Rattle.fib_resolve_changes.specs.Ranks.{is_usable_mark}
use Rattle.fib_stack_ledger.specs.Ledgers.{was_in}
use Rattle.fib_stack.proofs.wanted.usable.Given as goal

abbrev pub invariant-loop-mark : goal.invariant-loop-mark
invariant-loop-mark l = l.out.items ≡ filter (is_usable_mark (was_in l.ledger.rows)) (take l.mark-index l.marks)
