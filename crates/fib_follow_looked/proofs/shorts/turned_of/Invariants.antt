use Rattle.std.proofs.Common.{take}
use Rattle.fib_resolve.specs.declared.types.Tables.{Tables}
use Rattle.fib_entries_rows.specs.Known.{StandsFor}
use Rattle.fib_follow_looked.proofs.Turning.{TurnsAmong}
use Rattle.fib_follow_looked.proofs.shorts.turned_of.Given as goal

abbrev pub invariant-named : goal.invariant-named
invariant-named l = (S : Tables) → StandsFor l.before S → TurnsAmong S l.after.tables (take l.place l.named) l.out.items
