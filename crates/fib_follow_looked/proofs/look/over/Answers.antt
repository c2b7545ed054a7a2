use Rattle.std.proofs.Common.{arith, Some, ◌≡◌, ◌↔◌, subst, sym}
use Rattle.fib_cover.specs.Covers.{IsLongestMatch}
use Rattle.fib_resolve.specs.Pairs.{short_prefixes}
use Rattle.fib_follow_looked.specs.Looks.{IsOver}
use Rattle.fib_follow_looked.proofs.Nearing.{over_gone, over_itself}
use Rattle.fib_follow_looked.proofs.look.over.Goals as goal

pub returns-in-Comes : goal.returns-in-Comes
returns-in-Comes c = λ S T h are z.
    let q = c.args.turned.prefix in
    subst (λ t. (Some q ≡ Some z) ↔ IsOver T q t z) (sym c.in-Comes.is) (over_itself T q z)

pub returns-in-Attaches : goal.returns-in-Attaches
returns-in-Attaches c = λ S T h are z.
    let q = c.args.turned.prefix in
    subst (λ t. (Some q ≡ Some z) ↔ IsOver T q t z) (sym c.in-Attaches.is) (over_itself T q z)

pub returns-in-Goes : goal.returns-in-Goes
returns-in-Goes c = λ S T h are z.
    let q = c.args.turned.prefix in
    let is = c.len.ensures.value in
    let bound = c.len.ensures.bound in
    subst (λ t. (c.longest.result ≡ Some z) ↔ IsOver T q t z) (sym c.in-Goes.is)
    (over_gone T q z c.longest.result are.good (omega (arith, is, bound))
    (subst (λ n. IsLongestMatch (short_prefixes T) n q.bits c.longest.result) is
    (subst (λ b. IsLongestMatch (short_prefixes T) c.len.result b c.longest.result) c.bits.ensures (c.longest.ensures S T h are))))
