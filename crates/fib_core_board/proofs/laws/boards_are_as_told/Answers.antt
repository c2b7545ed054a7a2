use Rattle.fib_core_board.proofs.Ruling.{told_home}
use Rattle.fib_core_board.proofs.laws.boards_are_as_told.Goals as goal

pub returns : goal.returns
returns c = λ id d objects seat numbers views passes s mine limits. told_home id passes d objects numbers views s seat mine limits
