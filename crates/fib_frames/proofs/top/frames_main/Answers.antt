use Rattle.std.proofs.Common.{sym, ap, Err, Some}
use Rattle.fib_run.proofs.Endings.{status_3, status_5}
use Rattle.fib_run.specs.Jobs.{job_in}
use Rattle.fib_frames.proofs.Showing.{status_4, status_7}
use Rattle.fib_frames.proofs.top.frames_main.Goals as goal

pub returns-in-Err-Write-clause-status : goal.returns-in-Err-Write-clause-status
returns-in-Err-Write-clause-status g c =
    let sent = c.in-Err-Write.ensures.first (ap Err c.in-Err-Write.field-0-is) in
    rw (sym c.in-Ok-Some.ensures.value, c.in-Ok-Some.field-0-is) (status_4 (g.H.Shelf.holds c.args.shelf.now) (Some (job_in c.in-Ok-Some.job)) sent.0 sent.1 sent.2)

pub returns-in-Err-Refused-clause-status : goal.returns-in-Err-Refused-clause-status
returns-in-Err-Refused-clause-status g c =
    let cause = c.in-Err-Refused.ensures.refused (ap Err c.in-Err-Refused.field-0-is) in
    rw (sym c.in-Ok-Some.ensures.value, c.in-Ok-Some.field-0-is) (status_5 (g.H.Shelf.holds c.args.shelf.now) (Some (job_in c.in-Ok-Some.job)) cause)

pub returns-in-Err-Capture-clause-status : goal.returns-in-Err-Capture-clause-status
returns-in-Err-Capture-clause-status g c =
    let cause = c.in-Err-Capture.ensures.opened (ap Err c.in-Err-Capture.field-0-is) in
    rw (sym c.in-Ok-Some.ensures.value, c.in-Ok-Some.field-0-is) (status_3 (g.H.Shelf.holds c.args.shelf.now) (Some (job_in c.in-Ok-Some.job)) cause)

pub returns-in-Err-TooLong-clause-status : goal.returns-in-Err-TooLong-clause-status
returns-in-Err-TooLong-clause-status g c =
    let cause = c.in-Err-TooLong.ensures.too_long (ap Err c.in-Err-TooLong.field-0-is) in
    rw (sym c.in-Ok-Some.ensures.value, c.in-Ok-Some.field-0-is) (status_7 (g.H.Shelf.holds c.args.shelf.now) (Some (job_in c.in-Ok-Some.job)) cause)
