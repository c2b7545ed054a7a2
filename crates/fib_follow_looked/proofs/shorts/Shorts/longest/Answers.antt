use Rattle.std.proofs.Common.{subst, sym}
use Rattle.fib_cover.specs.Covers.{IsLongestMatch}
use Rattle.fib_resolve.specs.Pairs.{short_prefixes}
use Rattle.fib_follow_looked.proofs.Above.{matches_after}
use Rattle.fib_follow_looked.proofs.shorts.Shorts.longest.Goals as goal

pub returns : goal.returns
returns c = λ S T h are.
    subst (IsLongestMatch (short_prefixes T) c.args.limit c.args.addr) (sym c.longer.ensures)
    (matches_after c.args.before.now S T c.args.self.now h are c.order.result.now c.args.limit c.args.addr c.longest_beside.result c.longest.result
    c.order.ensures.same c.requires c.longest_beside.ensures c.longest.ensures)
