use Rattle.std.proofs.Common.{arith}
use Rattle.fib_follow_looked.proofs.Finding.{host_known}
use Rattle.fib_follow_looked.proofs.other.host_of.Goals as goal

pub returns : goal.returns
returns c = λ covered known.
    let e = c.len.ensures.value in
    let ge = c.if-len-lt32.false in
    host_known c.args.after.now.tables c.args.e c.args.cover c.in_ok-attached.attached c.args.hops.now c.contains.result
    (λ lt. omega (arith, lt, e, ge)) (let le = c.len.ensures.bound in omega (arith, le, e))
    c.in_ok-attached.ensures c.contains.ensures covered known
