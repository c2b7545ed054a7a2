-- What a walk reads of a board's cells, by the stage where it stands: the object is one, and an adjacency's numbers have their room.
use Rattle.std.specs.Prelude.{ℕ, ◌^◌, ◌<◌, ◌≤◌}
use Rattle.fib_core.specs.Trails.{IsMac}
use Rattle.fib_core.specs.Walk.{mac_in, word_at}
use Rattle.fib_core.specs.Words.{value_of}
use Rattle.fib_core_board.specs.Boards.{Board}
use Rattle.fib_core.specs.declared.stage.Stage.{Stage}
use Rattle.fib_core.specs.declared.stage.Stage.TheVariants as stages

pub record IsAdjacencyIn (b : Board) (o : ℕ) : Type 0 where
  pub inside : o < b.objects
  pub interface : value_of (word_at b.union.cells o 0) < 2 ^ 32
  pub hop : value_of (word_at b.union.cells o 1) < 2 ^ 32
  pub mac : IsMac (mac_in (value_of (word_at b.union.cells o 2)))

abbrev pub IsReadable : Board → Stage → Type 0
IsReadable b (stages.Ply o d) = (o < b.objects) × (d ≤ 7)
IsReadable b (stages.Balance o left) = o < b.objects
IsReadable b (stages.Adjacency o) = IsAdjacencyIn b o
IsReadable b (stages.Ended e) = Unit {0}
