use Rattle.std.proofs.Common.{arith}
use Rattle.fib_follow_part.proofs.Blocks.{is_block}
use Rattle.fib_follow_part.proofs.lowering.block.Goals as goal

pub raised-requires : goal.raised-requires
raised-requires c = λ n k.
    let h = c.in-Some.ensures in
    let lt = c.requires.below n k in
    let fits = c.least.type_inv in
    omega (arith, h.0, h.1, lt, fits)

pub returns-clause-some : goal.returns-clause-some
returns-clause-some c =
    let h = c.in-Some.ensures in
    is_block c.args.ranks.now c.args.numbers.now c.in_ok-made.made.items c.least.result c.in-Some.base
    (omega (arith, h.0, h.1)) c.least.ensures.low c.requires.below c.in_ok-made.ensures
