use Rattle.fib_follow_write.proofs.Coming.{set_fits, set_joined}
use Rattle.fib_follow_write.proofs.Upon.{on_ok}
use Rattle.fib_follow_write.proofs.order.join_all.Goals as goal

pub take_all-requires : goal.take_all-requires
take_all-requires c = set_fits c.args.prefixes.now c.args.order.now c.requires.once c.requires.absent

pub returns-clause-ok : goal.returns-clause-ok
returns-clause-ok c = on_ok c.take_all.result _ _ c.take_all.ensures.ok
    (set_joined c.args.prefixes.now c.args.order.now c.take_all.new.state c.len-count.ensures.ordered)
