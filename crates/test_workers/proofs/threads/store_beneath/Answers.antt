use Rattle.std.proofs.Common.{ap, ◌∙◌}
use Rattle.fib_core_board.specs.Boards.{Board}
use Rattle.trial_filling.proofs.Changing as changing
use Rattle.test_workers.proofs.threads.store_beneath.Goals as goal

pub store-requires-clause-may : goal.store-requires-clause-may
store-requires-clause-may c = changing.may_number c.loop.board c.loop.invariant.0

pub store-requires-in-loop-clause-may : goal.store-requires-in-loop-clause-may
store-requires-in-loop-clause-may c = changing.may_clear c.store.new.self (changing.numbered c.loop.board c.store.new.self c.loop.invariant.0 c.store.ensures)

pub loop-preserved : goal.loop-preserved
loop-preserved c = (
  changing.cleared c.store.new.self (changing.numbered c.loop.board c.store.new.self c.loop.invariant.0 c.store.ensures) c.store-in-loop.new.self c.store-in-loop.ensures,
  ap (λ (b : Board). b.id) c.store-in-loop.ensures ∙ ap (λ (b : Board). b.id) c.store.ensures ∙ c.loop.invariant.1,
)
