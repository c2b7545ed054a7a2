use Rattle.std.proofs.Common.{arith}
use Rattle.fib_base_blocks.proofs.Laid.{laid_long, laid_start, found}
use Rattle.fib_base_blocks.proofs.layout.find.Goals as goal

pub block_of-block-requires-clause-some : goal.block_of-block-requires-clause-some
block_of-block-requires-clause-some g c = omega (arith, laid_long c.args.blocks.now c.args.starts.now c.requires.laid, c.requires.some)

pub block_of-block-requires-clause-first : goal.block_of-block-requires-clause-first
block_of-block-requires-clause-first g c = omega (arith, laid_start c.args.blocks.now c.args.starts.now 0 0 c.requires.laid c.requires.some)

pub returns : goal.returns
returns g c =
    let long = laid_long c.args.blocks.now c.args.starts.now c.requires.laid in
    found c.args.blocks.now c.args.starts.now c.args.place c.block_of-block.result c.requires.laid c.requires.inside (omega (arith, long, c.block_of-block.ensures.inside)) c.block_of-block.ensures.start
    (λ more. c.block_of-block.ensures.next (omega (arith, long)))
