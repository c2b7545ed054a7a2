use Rattle.std.proofs.Common.{arith}
use Rattle.fib_follow_looked.proofs.Turning.{host_stays}
use Rattle.fib_follow_looked.proofs.shorts.turn_of.Goals as goal

pub returns : goal.returns
returns c = λ S h t.
    let is = c.len.ensures.value in
    let ge = c.if-len-lt32.false in
    host_stays S c.args.after.now.tables c.args.q (omega (arith, is, ge)) t
