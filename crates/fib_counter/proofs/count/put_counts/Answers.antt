use Rattle.std.proofs.Common.{ap, ◌∙◌}
use Rattle.fib_core_lawful.specs.Claims.{times}
use Rattle.fib_config.specs.Config.{Setup}
use Rattle.fib_control.specs.Controls.{tables_in}
use Rattle.fib_counter.specs.CountOutput.{class_count}
use Rattle.fib_counter.proofs.Printing.{counts_told}
use Rattle.fib_counter.proofs.count.put_counts.Goals as goal

pub returns : goal.returns
returns g c =
    let S = tables_in c.args.control.now in
    counts_told c.put_totals.result S c.tables.result.now (λ w. times w c.count_packets.new.keeper.tally) (class_count S c.args.task.now.packets.now.packets)
    c.args.text.now.items c.put_totals.new.out.items (c.tables.ensures.value ∙ ap (λ (s : Setup). s.tables) c.count_packets.ensures.tables) c.in_ok-count_packets.ensures.totals c.put_totals.ensures
