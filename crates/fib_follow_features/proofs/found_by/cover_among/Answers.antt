use Rattle.std.proofs.Common.{arith, ◌∙◌, ap}
use Rattle.std.specs.Prelude.{filter}
use Rattle.fib_addr.specs.Longest.{longest}
use Rattle.fib_resolve.specs.Pairs.{is_short}
use Rattle.fib_follow_features.proofs.Covered.{found_cover, no_cover}
use Rattle.fib_follow_features.proofs.found_by.cover_among.Goals as goal

pub returns-in-Some : goal.returns-in-Some
returns-in-Some c =
    found_cover c.args.order.now c.bits-addr.result (omega arith) c.len-count.ensures.prefixes c.in-Some.cover c.in-Some.ensures
    ∙ ap (λ a. longest a (filter is_short c.args.order.now)) c.bits-addr.ensures

pub returns-in-None : goal.returns-in-None
returns-in-None c =
    c.masked.ensures ∙ (no_cover c.args.order.now c.bits-addr.result (omega arith) c.len-count.ensures.prefixes c.in-None.ensures
    ∙ ap (λ a. longest a (filter is_short c.args.order.now)) c.bits-addr.ensures)
