use Rattle.fib_entries_rows.specs.Known.{rank_of}
use Rattle.fib_urpf.specs.Kept.{IsFor}
use Rattle.fib_checker.proofs.checker.settle.Given as goal

abbrev pub invariant-loop : goal.invariant-loop
invariant-loop l = IsFor l.urpf l.tables (rank_of l.entries.rows)
