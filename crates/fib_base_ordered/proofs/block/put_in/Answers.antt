use Rattle.std.proofs.Common.{length, arith, ap}
use Rattle.fib_base_ordered.specs.inner.Blocks.{items_of}
use Rattle.fib_base_ordered.proofs.Changes.{wide_filled, wide_is}
use Rattle.fib_base_ordered.proofs.block.put_in.Goals as goal

pub returns-else-as_slice-gt64-clause-filled : goal.returns-else-as_slice-gt64-clause-filled
returns-else-as_slice-gt64-clause-filled g c =
    let is = wide_is c.put.new.blocks.items c.args.place.block c.index.result.now (omega (arith, c.requires.inside, c.put.ensures.len)) c.put.ensures.wide c.index.ensures in
    wide_filled c.put.new.blocks.items c.args.place.block c.put.ensures.wide (omega (arith, ap length (ap items_of is), ap length c.as_slice.ensures.value))
