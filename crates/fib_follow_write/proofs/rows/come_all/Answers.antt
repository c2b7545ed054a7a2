use Rattle.fib_follow_write.proofs.Coming.{rows_come, rows_fit}
use Rattle.fib_follow_write.proofs.Upon.{on_ok}
use Rattle.fib_follow_write.proofs.rows.come_all.Goals as goal

pub take_all-requires : goal.take_all-requires
take_all-requires c = rows_fit c.args.prefixes.now c.args.rows.now c.requires.ordered c.requires.once c.requires.absent

pub returns-clause-ok : goal.returns-clause-ok
returns-clause-ok c = on_ok c.take_all.result _ _ c.take_all.ensures.ok
    (rows_come c.args.prefixes.now c.args.rows.now c.take_all.new.state c.requires.ordered)
