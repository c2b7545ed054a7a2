use Rattle.std.proofs.Common.{arith, ◌<◌, length, sym, ap, subst}
use Rattle.std.specs.Prelude.{flat_map}
use Rattle.std.proofs.lemmas.List.Edits.{length-remove}
use Rattle.fib_base_blocks.specs.inner.Layout.{IsPlace, items_of}
use Rattle.fib_base_blocks.proofs.list.Blocks.remove.Goals as goal

pub invariant_of-self : goal.invariant_of-self
invariant_of-self g c =
    let list = flat_map items_of c.self.inside.blocks.items in
    let at = subst (λ l. IsPlace l c.args.place c.find-at.result.block c.find-at.result.slot) c.as_slice.ensures.value c.find-at.ensures in
    let less : c.args.place < length list = subst (λ l. c.args.place < length l) (sym c.self.view_is) c.requires in
    record {
      blocks = c.take_out-element.ensures.laid;
      count = omega (arith, c.self.invariant.count, ap length (c.take_out-element.ensures.list c.args.place at less), length-remove list c.args.place less);
    }
