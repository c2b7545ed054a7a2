use Rattle.std.proofs.Common.{ℕ, List, Option, ap, subst}
use Rattle.std.specs.Prelude.{Err}
use Rattle.fib_rounds.specs.Writes.{Gains}
use Rattle.fib_run.specs.Output.{FirstPart}
use Rattle.fib_checker.specs.Runs.{ChecksOf}
use Rattle.fib_checker.proofs.Endings.{memory_may_lack, write_may_fail}
use Rattle.fib_checker.proofs.top.check_main.Goals as goal

pub returns-in-Err-Write-clause-part : goal.returns-in-Err-Write-clause-part
returns-in-Err-Write-clause-part g c = λ e.
    subst (λ (o : Option (List ℕ)). Gains (FirstPart (ChecksOf (g.H.Shelf.holds c.args.shelf.now) o)) (g.K.Sink.written c.args.out.now) (g.K.Sink.written c.run_file.new.out)) c.in-Some.ensures
    (c.in-Err-Write.ensures.first (ap Err c.in-Err-Write.field-0-is))

pub returns-in-Err-Write-clause-status : goal.returns-in-Err-Write-clause-status
returns-in-Err-Write-clause-status g c = write_may_fail _ _ c.in-Some.ensures

pub returns-in-Err-Memory-clause-status : goal.returns-in-Err-Memory-clause-status
returns-in-Err-Memory-clause-status g c = memory_may_lack _ _ c.in-Some.ensures
