use Rattle.std.proofs.Common.{arith, filter, ap, subst, ◌∙◌}
use Rattle.fib_addr.specs.Longest.{longest}
use Rattle.fib_cover.specs.Covers.{IsLongestMatch}
use Rattle.fib_resolve.specs.Pairs.{is_short}
use Rattle.fib_follow_features.proofs.Covered.{found_cover, no_cover}
use Rattle.fib_follow_plan.proofs.Merging.{merged_good}
use Rattle.fib_follow_plan.proofs.covers.Covers.cover.Goals as goal

pub returns-in-Some : goal.returns-in-Some
returns-in-Some c = λ after h.
    found_cover after c.bits-addr.result (omega arith)
    (merged_good c.args.order.now c.args.self.now after h c.len-count.ensures.prefixes c.len-more.ensures.prefixes) c.in-Some.cover
    (subst (IsLongestMatch after 32 c.bits-addr.result) c.in-Some.is (c.longest.ensures after h))
    ∙ ap (λ a. longest a (filter is_short after)) c.bits-addr.ensures

pub returns-in-None : goal.returns-in-None
returns-in-None c = λ after h.
    c.masked.ensures ∙ (no_cover after c.bits-addr.result (omega arith)
    (merged_good c.args.order.now c.args.self.now after h c.len-count.ensures.prefixes c.len-more.ensures.prefixes)
    (subst (IsLongestMatch after 32 c.bits-addr.result) c.in-None.is (c.longest.ensures after h))
    ∙ ap (λ a. longest a (filter is_short after)) c.bits-addr.ensures)
