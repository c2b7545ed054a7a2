use Rattle.std.proofs.Common.{subst}
use Rattle.fib_config.proofs.Made.{made_refused}
use Rattle.fib_entries.specs.Following.{TellsChange}
use Rattle.fib_entries.specs.declared.errors.ChangeError.{ChangeError}
use Rattle.fib_checker.proofs.Checking.{same_ready, too_large}
use Rattle.fib_checker.proofs.checker.change.Goals as goal

pub returns-in-Err-Refused : goal.returns-in-Err-Refused
returns-in-Err-Refused c =
    let S = c.args.checker.now.config.tables in
    let e = c.args.edit.now in
    let told = c.in-Err-Refused.ensures in (
      made_refused S 8192 e c.in-Err-Refused.refusal (subst (λ (x : ChangeError). TellsChange S 8192 e x) c.in-Err-Refused.field-0-is told.why),
      same_ready S c.args.checker.now c.change_tables.new.config c.change_tables.new.entries told.config told.entries c.requires.ready,
    )

pub returns-in-Err-TooMany : goal.returns-in-Err-TooMany
returns-in-Err-TooMany c =
    let S = c.args.checker.now.config.tables in
    let e = c.args.edit.now in
    let told = c.in-Err-TooMany.ensures in (
      too_large S 8192 e c.in-Err-TooMany.field-0-0 (subst (λ (x : ChangeError). TellsChange S 8192 e x) c.in-Err-TooMany.field-0-is told.why),
      same_ready S c.args.checker.now c.change_tables.new.config c.change_tables.new.entries told.config told.entries c.requires.ready,
    )
