use Rattle.std.proofs.Common.{sym, ap, Err, Some}
use Rattle.fib_run.proofs.Endings.{status_3, status_5}
use Rattle.fib_counter.specs.Words.{asked_in}
use Rattle.fib_counter.proofs.Endings.{status_4}
use Rattle.fib_counter.proofs.top.count_main.Goals as goal

pub returns-in-Err-Write-clause-part : goal.returns-in-Err-Write-clause-part
returns-in-Err-Write-clause-part g c = λ _. rw (sym c.in-Ok-Some.ensures.value, c.in-Ok-Some.field-0-is) (c.in-Err-Write.ensures.first (ap Err c.in-Err-Write.field-0-is))

pub returns-in-Err-Write-clause-status : goal.returns-in-Err-Write-clause-status
returns-in-Err-Write-clause-status g c =
    let text = c.in-Err-Write.ensures.first (ap Err c.in-Err-Write.field-0-is) in
    rw (sym c.in-Ok-Some.ensures.value, c.in-Ok-Some.field-0-is) (status_4 (g.H.Shelf.holds c.args.shelf.now) (Some (asked_in c.in-Ok-Some.asked)) text.0 text.1)

pub returns-in-Err-Refused-clause-status : goal.returns-in-Err-Refused-clause-status
returns-in-Err-Refused-clause-status g c =
    let cause = c.in-Err-Refused.ensures.refused (ap Err c.in-Err-Refused.field-0-is) in
    rw (sym c.in-Ok-Some.ensures.value, c.in-Ok-Some.field-0-is) (status_5 (g.H.Shelf.holds c.args.shelf.now) (Some (asked_in c.in-Ok-Some.asked)) cause)

pub returns-in-Err-Capture-clause-status : goal.returns-in-Err-Capture-clause-status
returns-in-Err-Capture-clause-status g c =
    let cause = c.in-Err-Capture.ensures.opened (ap Err c.in-Err-Capture.field-0-is) in
    rw (sym c.in-Ok-Some.ensures.value, c.in-Ok-Some.field-0-is) (status_3 (g.H.Shelf.holds c.args.shelf.now) (Some (asked_in c.in-Ok-Some.asked)) cause)
