use Rattle.std.proofs.Common.{subst}
use Rattle.std.specs.Prelude.{Contains}
use Rattle.fib_entries_rows.specs.inner.Used.{named_count}
use Rattle.fib_follow_write.specs.Steps.{AreTaken}
use Rattle.fib_follow_write.specs.inner.Stepped.{HasCome, HasJoined}
use Rattle.fib_follow_write.proofs.Coming.{new_on, rows_come}
use Rattle.fib_follow_write.proofs.writing.make_ready.Goals as goal

pub come_both-requires-clause-absent : goal.come_both-requires-clause-absent
come_both-requires-clause-absent c = λ p d e. c.requires.plan.came_new p (subst (λ l. Contains l p) c.as_slice.ensures d) e

pub lead_and_take-requires-clause-ordered : goal.lead_and_take-requires-clause-ordered
lead_and_take-requires-clause-ordered c =
    (rows_come c.as_slice.result.now c.args.rows.now c.come_both.new.rows c.requires.used.ordered c.in_ok-come_both.ensures.come).ordered

pub lead_and_take-requires-clause-new : goal.lead_and_take-requires-clause-new
lead_and_take-requires-clause-new c = new_on c.as_slice.result.now c.args.plan.now.edges_in c.args.rows.now c.come_both.new.rows
    (rows_come c.as_slice.result.now c.args.rows.now c.come_both.new.rows c.requires.used.ordered c.in_ok-come_both.ensures.come) c.requires.plan.edges_new

pub returns-in-Ok-clause-ready : goal.returns-in-Ok-clause-ready
returns-in-Ok-clause-ready c = record {
  mid = c.come_both.new.rows;
  come = subst (λ l. AreTaken HasCome l c.args.rows.now c.come_both.new.rows) c.as_slice.ensures c.in_ok-come_both.ensures.come;
  made = c.in-Ok.ensures.led;
  join = subst (λ l. AreTaken HasJoined l c.args.order.now c.come_both.new.order) c.as_slice.ensures c.in_ok-come_both.ensures.join;
  taken = c.in-Ok.ensures.taken (named_count c.args.lists.now c.args.rows.now) c.requires.used.used;
}
