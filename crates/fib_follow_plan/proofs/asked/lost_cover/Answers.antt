use Rattle.std.proofs.Common.{arith}
use Rattle.fib_follow_plan.proofs.asked.lost_cover.Goals as goal

pub returns : goal.returns
returns c = λ z h.
    let is = c.len.ensures.value in
    let ge = c.if-len-lt32.false in
    let lt = h.0 in
    absurd (omega (arith, is, ge, lt))
