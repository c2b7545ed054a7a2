use Rattle.std.proofs.Common.{ap, sym, refl, Err, Some}
use Rattle.fib_tracer.specs.Words.{wanted_in}
use Rattle.fib_tracer.proofs.Ending.{may_3, may_4, may_5}
use Rattle.fib_tracer.proofs.top.trace_main.Goals as goal

pub returns-in-Err-Capture-clause-status : goal.returns-in-Err-Capture-clause-status
returns-in-Err-Capture-clause-status g c =
    rw (sym c.in-Ok-Some.ensures.value, c.in-Ok-Some.field-0-is) (may_3 c.in-Ok-Some.wanted (Some (wanted_in c.in-Ok-Some.wanted)) refl)

pub returns-in-Err-Write-clause-status : goal.returns-in-Err-Write-clause-status
returns-in-Err-Write-clause-status g c =
    rw (sym c.in-Ok-Some.ensures.value, c.in-Ok-Some.field-0-is) (may_4 c.in-Ok-Some.wanted (Some (wanted_in c.in-Ok-Some.wanted)) refl)

pub returns-in-Err-Refused-clause-status : goal.returns-in-Err-Refused-clause-status
returns-in-Err-Refused-clause-status g c =
    rw (sym c.in-Ok-Some.ensures.value, c.in-Ok-Some.field-0-is) (may_5 c.in-Ok-Some.wanted (Some (wanted_in c.in-Ok-Some.wanted)) refl)

pub returns-in-Err-Write-clause-part : goal.returns-in-Err-Write-clause-part
returns-in-Err-Write-clause-part g c = λ _.
    rw (sym c.in-Ok-Some.ensures.value, c.in-Ok-Some.field-0-is) (c.in-Err-Write.ensures.first (ap Err c.in-Err-Write.field-0-is))

pub returns-in-Err-Memory-clause-wanting : goal.returns-in-Err-Memory-clause-wanting
returns-in-Err-Memory-clause-wanting g c = λ _.
    rw (sym c.in-Ok-Some.ensures.value, c.in-Ok-Some.field-0-is) c.in-Err-Memory.ensures.part
