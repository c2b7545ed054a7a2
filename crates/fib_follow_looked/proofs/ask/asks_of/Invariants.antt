use Rattle.std.proofs.Common.{take}
use Rattle.fib_resolve.specs.declared.types.Tables.{Tables}
use Rattle.fib_entries_rows.specs.Known.{StandsFor}
use Rattle.fib_follow_looked.specs.Looks.{AreTurns}
use Rattle.fib_follow_looked.proofs.Asking.{AsksAmong}
use Rattle.fib_follow_looked.proofs.ask.asks_of.Given as goal

abbrev pub invariant-turned : goal.invariant-turned
invariant-turned l = (S T : Tables) → StandsFor l.before S → AreTurns S T l.turned → AsksAmong S T (take l.place l.turned) l.out.items
