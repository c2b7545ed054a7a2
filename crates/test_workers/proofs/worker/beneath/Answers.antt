use Rattle.trial_filling.proofs.Changing as changing
use Rattle.test_workers.proofs.worker.beneath.Goals as goal

pub store-requires-clause-may : goal.store-requires-clause-may
store-requires-clause-may c = changing.may_number c.args.board.now c.requires

pub store-requires-2-clause-may : goal.store-requires-2-clause-may
store-requires-2-clause-may c = changing.may_clear c.store.new.self (changing.numbered c.args.board.now c.store.new.self c.requires c.store.ensures)

pub returns-clause-changing : goal.returns-clause-changing
returns-clause-changing c =
    changing.cleared c.store.new.self (changing.numbered c.args.board.now c.store.new.self c.requires c.store.ensures) c.store-2.new.self c.store-2.ensures
