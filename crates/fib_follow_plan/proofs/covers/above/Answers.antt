use Rattle.std.proofs.Common.{arith, Some, None, refl, subst, ◌∙◌}
use Rattle.fib_cover.specs.Covers.{IsLongestMatch}
use Rattle.fib_follow_plan.proofs.Merging.{nearest_is, nearest_none}
use Rattle.fib_follow_plan.proofs.covers.above.Goals as goal

pub returns-in-Some : goal.returns-in-Some
returns-in-Some c = λ z h.
    let q = c.args.q in
    let xs = c.args.order.now in
    let is = c.len.ensures.value in
    let bound = c.len.ensures.bound in
    nearest_is xs q z c.len-count.ensures.prefixes (omega (arith, is, bound)) h (Some c.in-Some.cover)
    (subst (λ n. IsLongestMatch xs n q.bits (Some c.in-Some.cover)) is
    (subst (λ b. IsLongestMatch xs c.len.result b (Some c.in-Some.cover)) c.bits.ensures
    (subst (IsLongestMatch xs c.len.result c.bits.result) c.in-Some.is c.longest.ensures))) c.in-Some.cover refl

pub returns-in-None : goal.returns-in-None
returns-in-None c = λ z h.
    let q = c.args.q in
    let xs = c.args.order.now in
    c.masked.ensures ∙ nearest_none xs q z c.len-count.ensures.prefixes h
    (subst (λ n. IsLongestMatch xs n q.bits None) c.len.ensures.value
    (subst (λ b. IsLongestMatch xs c.len.result b None) c.bits.ensures
    (subst (IsLongestMatch xs c.len.result c.bits.result) c.in-None.is c.longest.ensures)))
