-- A worker and a board that were in threads.
use Rattle.std.specs.Prelude.{◌≡◌, ℕ, List, Option, Some, None}
use Rattle.fib_core_board.specs.Boards.{Board}
use Rattle.fib_core_board.specs.Crews.{Seated}
use Rattle.trial_filling.specs.inner.Filling.{IsChanging}

-- the worker, if there is one, is of these words
abbrev pub IsOf : List ℕ → Option Seated → Type 0
IsOf id None = Unit {0}
IsOf id (Some s) = s.id ≡ id

abbrev pub SameSeat : Option Seated → Option Seated → Type 0
SameSeat None o = Unit {0}
SameSeat (Some s) o = IsOf s.id o

-- the board, if there is one, is in the midst of a change, and is so afterwards
abbrev pub MayRun : Option Board → Type 0
MayRun None = Unit {0}
MayRun (Some b) = IsChanging b

abbrev pub SameBoard : Option Board → Option Board → Type 0
SameBoard None o = Unit {0}
SameBoard (Some b) None = ⊥
SameBoard (Some b) (Some c) = (c.id ≡ b.id) × IsChanging c
