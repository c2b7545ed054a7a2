use Rattle.std.proofs.Common.{arith, sym, subst}
use Rattle.fib_cover.specs.Covers.{IsLongestMatch}
use Rattle.fib_follow_looked.specs.Looks.{IsTurn}
use Rattle.fib_follow_looked.proofs.Asking.{Tells, inside_is}
use Rattle.fib_follow_looked.proofs.ask.ask_of.Goals as goal

pub returns-in-Comes : goal.returns-in-Comes
returns-in-Comes c = λ S T h turn x.
    let q = c.args.turned.prefix in
    let is = c.len.ensures.value in
    let bound = c.len.ensures.bound in
    subst (Tells S T q) (sym c.inside.ensures)
    (inside_is c.args.before.now S T h q c.order.result.now c.longest.result (omega (arith, is, bound)) c.order.ensures.same
    (subst (λ n. IsLongestMatch c.order.result.now n q.bits c.longest.result) is
    (subst (λ b. IsLongestMatch c.order.result.now c.len.result b c.longest.result) c.bits.ensures c.longest.ensures))
    (subst (IsTurn S T q) c.in-Comes.is turn)) x
