use Rattle.std.proofs.Common.{◌∙◌, ap}
use Rattle.fib_core_board.specs.Boards.{Board}
use Rattle.test_workers.proofs.Lives.{fresh_board, kept_id}
use Rattle.test_workers.proofs.standing.filled_board.Goals as goal

pub fill-requires-clause-fresh : goal.fill-requires-clause-fresh
fill-requires-clause-fresh c = fresh_board _ _ (c.new-board.ensures.board ∙ c.requires)

pub fill-requires-clause-objects : goal.fill-requires-clause-objects
fill-requires-clause-objects c = ap (λ (b : Board). b.objects) (c.new-board.ensures.board ∙ c.requires)

pub fill-requires-clause-workers : goal.fill-requires-clause-workers
fill-requires-clause-workers c = ap (λ (b : Board). b.workers) (c.new-board.ensures.board ∙ c.requires)

pub returns-clause-rest : goal.returns-clause-rest
returns-clause-rest c = kept_id _ _ _ (c.new-board.ensures.board ∙ c.requires) c.fill.ensures.rest
