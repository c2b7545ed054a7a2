use Rattle.fib_entries_rows.specs.Known.{prefix_of}
use Rattle.fib_entries_rows.proofs.Looking.{found_row, no_row}
use Rattle.fib_entries_rows.proofs.look.place_of.Goals as goal

pub returns-in-Ok-clause-value : goal.returns-in-Ok-clause-value
returns-in-Ok-clause-value c =
    found_row prefix_of c.args.rows.now c.args.prefix c.in-Ok.place c.requires c.in-Ok.ensures.bound c.in-Ok.ensures.position

pub returns-in-Err-clause-value : goal.returns-in-Err-clause-value
returns-in-Err-clause-value c =
    no_row prefix_of c.args.rows.now c.args.prefix c.in-Err.field-0 c.requires c.in-Err.ensures.position
