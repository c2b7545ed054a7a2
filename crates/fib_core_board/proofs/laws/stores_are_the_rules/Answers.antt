use Rattle.fib_core_board.proofs.Ruling.{store_allowed}
use Rattle.fib_core_board.proofs.laws.stores_are_the_rules.Goals as goal

pub returns : goal.returns
returns c = λ id trails passes d objects seat k numbers views w s mine may. store_allowed id trails passes d objects numbers views s seat mine k w may
