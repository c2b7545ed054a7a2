use Rattle.std.proofs.Common.{arith, sym, ◌∙◌}
use Rattle.std.proofs.lemmas.Grind.{common_steps}
use Rattle.std.proofs.lemmas.Option.{gets}
use Rattle.fib_base_ordered.specs.inner.Blocks.{items_of}
use Rattle.fib_base_ordered.proofs.Rows.{row_get, last_slice}
use Rattle.fib_base_ordered.proofs.block.peek_back.Goals as goal

pub returns : goal.returns
returns g c =
    let same = row_get items_of c.args.blocks.now c.args.place.block c.index-blocks-place.result c.requires.inside ∙ sym c.as_slice-row.ensures.value in
    rw (last_slice items_of c.args.blocks.now c.args.place.block c.args.place.slot c.requires.some c.requires.slot, same) (grind (arith, common_steps, gets))
