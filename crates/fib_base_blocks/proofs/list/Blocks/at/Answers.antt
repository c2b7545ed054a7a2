use Rattle.std.proofs.Common.{◌<◌, get_or, length, sym, ◌∙◌, ap, subst}
use Rattle.fib_base_blocks.specs.inner.Layout.{IsPlace, items_of}
use Rattle.fib_base_blocks.proofs.Edits.{list_get}
use Rattle.fib_base_blocks.proofs.list.Blocks.at.Goals as goal

pub returns : goal.returns
returns g c =
    let bs = c.self.inside.blocks.items in
    let at = subst (λ l. IsPlace l c.args.place c.find-at.result.block c.find-at.result.slot) c.as_slice.ensures.value c.find-at.ensures in
    let less = at.within (subst (λ l. c.args.place < length l) (sym c.self.view_is) c.requires) in
    c.index-2.ensures ∙ (sym (list_get items_of bs c.find-at.result.block c.find-at.result.slot c.args.place c.index.result.now c.index-2.result.now at.inside at.place less c.index.ensures) ∙ ap (λ l. get_or l c.args.place c.index-2.result.now) c.self.view_is)
