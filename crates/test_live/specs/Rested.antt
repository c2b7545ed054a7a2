-- A board as it begins, with two workers.
use Rattle.std.specs.Prelude.{◌≡◌, ℕ, false, [], replicate}
use Rattle.fib_core_results.specs.Trails.{version_at}
use Rattle.fib_core_board.specs.Boards.{Board}

pub record IsRested (b : Board) : Type 0 where
  pub workers : b.workers ≡ 2
  pub out : b.out ≡ replicate 8 false
  pub rests : b.rests ≡ replicate 8 0
  pub version : b.log.version ≡ version_at 0
  pub gathered : b.gathered ≡ []
