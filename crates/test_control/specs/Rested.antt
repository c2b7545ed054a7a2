-- A plain board's first worker, at rest and with passes left.
use Rattle.std.specs.Prelude.{◌≡◌, ◌<◌, None, slice_index}
use Rattle.fib_core_lawful.specs.State.{left_of}
use Rattle.fib_core_board.specs.Boards.{Board}
use Rattle.fib_core_plainboard.specs.Passes.{pass_of}

pub record IsRested (b : Board) : Type 0 where
  pub some : 0 < b.workers
  pub rests : pass_of b 0 ≡ None
  pub left : 0 < left_of (slice_index b.rests 0)
