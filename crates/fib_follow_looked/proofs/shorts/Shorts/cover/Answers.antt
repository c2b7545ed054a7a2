use Rattle.std.proofs.Common.{arith, ◌<◌, ◌^◌, subst, ◌∙◌}
use Rattle.fib_cover.specs.Covers.{IsLongestMatch}
use Rattle.fib_resolve.specs.Pairs.{short_prefixes}
use Rattle.fib_follow_looked.proofs.Above.{cover_is, cover_none}
use Rattle.fib_follow_looked.proofs.shorts.Shorts.cover.Goals as goal

pub returns-in-Some : goal.returns-in-Some
returns-in-Some c = λ S T h are.
    let small : c.args.addr < 2 ^ 32 = omega (arith, c.addr.view_is) in
    cover_is T are.good c.args.addr small c.in-Some.q
    (subst (IsLongestMatch (short_prefixes T) 32 c.args.addr) c.in-Some.is (c.longest.ensures S T h are))

pub returns-in-None : goal.returns-in-None
returns-in-None c = λ S T h are.
    let small : c.args.addr < 2 ^ 32 = omega (arith, c.addr.view_is) in
    c.masked.ensures ∙ cover_none T are.good c.args.addr small
    (subst (IsLongestMatch (short_prefixes T) 32 c.args.addr) c.in-None.is (c.longest.ensures S T h are))
