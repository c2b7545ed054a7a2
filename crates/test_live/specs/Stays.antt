-- A worker that was in a thread.
use Rattle.std.specs.Prelude.{◌≡◌, Option, Some, None}
use Rattle.fib_core_board.specs.Crews.{Seated}
use Rattle.test_workers.specs.Homes.{IsOf}

-- the worker, if there is one then, is of the words of the one before
abbrev pub StaysOf : Option Seated → Option Seated → Type 0
StaysOf None None = Unit {0}
StaysOf None (Some t) = ⊥
StaysOf (Some s) o = IsOf s.id o
