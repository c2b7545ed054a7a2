use Rattle.std.proofs.Common.{take}
use Rattle.fib_resolve.specs.declared.types.Tables.{Tables}
use Rattle.fib_entries_rows.specs.Known.{StandsFor}
use Rattle.fib_follow_looked.specs.Looks.{AreHops, AreShorts}
use Rattle.fib_follow_looked.specs.inner.Finding.{AreAmong, AreFound}
use Rattle.fib_follow_looked.proofs.other.others.Given as goal

abbrev pub invariant-list : goal.invariant-list
invariant-list l = AreAmong (take l.place l.list) l.changed
    × ((S : Tables) → StandsFor l.before S → AreShorts S l.after.tables l.around.shorts → AreHops l.after.tables l.list l.around.hops
    → AreFound S l.after.tables (take l.place l.list) l.changed)
