use Rattle.std.proofs.Common.{◌∙◌}
use Rattle.fib_entries_rows.proofs.Orders.{plies_in}
use Rattle.fib_entries_rows.proofs.sizes.plies_of.Goals as goal

pub returns : goal.returns
returns c = c.plies_in.ensures ∙ plies_in c.args.meaning.now c.args.order.now c.requires.same
