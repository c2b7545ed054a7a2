use Rattle.std.proofs.Common.{◌/◌}
use Rattle.fib_control.specs.Controls.{tables_in}
use Rattle.fib_counter.proofs.Printing.{whole_output}
use Rattle.fib_counter.proofs.count.count_on.Goals as goal

pub returns : goal.returns
returns g c =
    whole_output (c.args.task.now.settings.objects / 2) c.args.task.now.script.now c.args.task.now.packets.now (tables_in c.run_lines.new.control)
    c.new-text.result.items c.run_lines.new.text.items c.put_any_counts.new.text.items c.put_last.new.text.items
    c.new-text.ensures.items c.in_ok-run_lines.ensures.text c.in_ok-run_lines.ensures.tables c.in_ok-put_any_counts.ensures c.in_ok-put_last.ensures
