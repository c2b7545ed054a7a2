use Rattle.std.proofs.Common.{take}
use Rattle.fib_resolve.specs.declared.types.Tables.{Tables}
use Rattle.fib_follow_view.specs.Views.{IsAfter}
use Rattle.fib_follow_part.specs.Parts.{IsPart}
use Rattle.fib_follow_told.specs.Told.{AreBodies}
use Rattle.fib_follow_told.proofs.body.bodies.Given as goal

abbrev pub invariant-list : goal.invariant-list
invariant-list l = (S : Tables) → IsAfter l.view S l.config.tables → IsPart l.view S l.config.tables l.part
    → AreBodies l.config.tables (take l.place l.list) l.out
