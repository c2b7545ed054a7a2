use Rattle.std.proofs.Common.{arith}
use Rattle.fib_control.specs.Controls.{tables_in}
use Rattle.fib_counter.proofs.Printing.{no_counts}
use Rattle.fib_counter.proofs.count.put_any_counts.Goals as goal

pub returns-else-count-gt0 : goal.returns-else-count-gt0
returns-else-count-gt0 g c = no_counts (tables_in c.args.control.now) c.args.task.now.packets.now.packets c.args.text.now.items (omega (arith, c.if-count-gt0.false, c.count.ensures))
