use Rattle.std.proofs.Common.{◌∙◌}
use Rattle.fib_rounds.proofs.Beginning.{new_over}
use Rattle.fib_counter.proofs.count.count.Goals as goal

pub count_on-requires-clause-fresh : goal.count_on-requires-clause-fresh
count_on-requires-clause-fresh g c κs within =
    let s = c.args.task.now.settings in
    new_over s.objects s.workers _ c.new-board.result c.in_ok-control.control (c.new-board.ensures.board ∙ c.in_ok-cells.ensures) c.in_ok-control.ensures.setup c.in_ok-control.ensures.rest
