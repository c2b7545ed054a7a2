use Rattle.fib_config.proofs.Made.{made_refused}
use Rattle.fib_config.proofs.edits.fitted.Goals as goal

pub returns-in-Err-Refused-clause-refused : goal.returns-in-Err-Refused-clause-refused
returns-in-Err-Refused-clause-refused c =
    rw c.in-Err-Refused.refusal-is (made_refused c.args.tables.now c.args.room c.args.edit.now c.in-Err-Refused.refusal (rw c.in-Err-Refused.field-0-is at c.in-Err-Refused.ensures.refused))
