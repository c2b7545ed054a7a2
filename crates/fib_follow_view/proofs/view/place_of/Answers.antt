use Rattle.fib_entries_rows.proofs.Looking.{found_row, no_row}
use Rattle.fib_follow_view.specs.Views.{anew_prefix}
use Rattle.fib_follow_view.proofs.view.place_of.Goals as goal

pub returns-in-Ok-clause-value : goal.returns-in-Ok-clause-value
returns-in-Ok-clause-value c = found_row anew_prefix c.args.changed.now c.args.e c.in-Ok.place c.requires c.in-Ok.ensures.bound c.in-Ok.ensures.position

pub returns-in-Err-clause-value : goal.returns-in-Err-clause-value
returns-in-Err-clause-value c = no_row anew_prefix c.args.changed.now c.args.e c.in-Err.field-0 c.requires c.in-Err.ensures.position
