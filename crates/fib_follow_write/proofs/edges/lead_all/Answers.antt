use Rattle.fib_follow_write.proofs.Upon.{edges_fit, edges_led, on_ok}
use Rattle.fib_follow_write.proofs.edges.lead_all.Goals as goal

pub take_all-requires : goal.take_all-requires
take_all-requires c = edges_fit c.args.edges.now c.args.rows.now c.requires.ordered c.requires.new

pub returns-clause-ok : goal.returns-clause-ok
returns-clause-ok c = on_ok c.take_all.result _ _ c.take_all.ensures.ok (edges_led c.args.edges.now c.args.rows.now c.take_all.new.state)
