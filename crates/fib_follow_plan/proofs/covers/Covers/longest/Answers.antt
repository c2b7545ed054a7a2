use Rattle.std.proofs.Common.{subst, sym}
use Rattle.fib_cover.specs.Covers.{IsLongestMatch}
use Rattle.fib_follow_plan.proofs.Merging.{merged_match}
use Rattle.fib_follow_plan.proofs.covers.Covers.longest.Goals as goal

pub returns : goal.returns
returns c = λ after h.
    subst (IsLongestMatch after 32 c.args.addr) (sym c.longer.ensures)
    (merged_match c.args.order.now c.args.self.now after h c.args.addr c.longest_beside.result c.longest.result c.longest_beside.ensures
    c.longest.ensures)
