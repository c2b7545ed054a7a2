use Rattle.std.proofs.Common.{◌⊎◌, take}
use Rattle.std.specs.Prelude.{Contains}
use Rattle.fib_addr.specs.Prefixes.{Prefix}
use Rattle.fib_resolve.specs.declared.types.Tables.{Tables}
use Rattle.fib_entries_rows.specs.Known.{StandsFor}
use Rattle.fib_follow_looked.specs.Looks.{AreShorts}
use Rattle.fib_follow_looked.specs.inner.Adding.{AddsMore}
use Rattle.fib_follow_looked.specs.inner.Turning.{HasNearEach, IsNearAny}
use Rattle.fib_follow_looked.proofs.look.add_each_near.Given as goal

abbrev pub invariant-turned : goal.invariant-turned
invariant-turned l = AddsMore l.fn.set l.set
    × ((S : Tables) → StandsFor l.before S → AreShorts S l.after.tables l.shorts → HasNearEach l.after.tables (take l.place l.turned) l.set)
    × ((S : Tables) → StandsFor l.before S → AreShorts S l.after.tables l.shorts → (q : Prefix) → Contains l.set q
    → Contains l.fn.set q ⊎ IsNearAny l.after.tables (take l.place l.turned) q)
