use Rattle.std.proofs.Common.{◌<◌, get_or, set, length, refl, sym, ◌∙◌, ap, subst, length-set}
use Rattle.std.specs.Prelude.{flat_map}
use Rattle.std.specs.Vec.{with_item}
use Rattle.fib_base_blocks.specs.inner.Layout.{IsPlace, items_of}
use Rattle.fib_base_blocks.proofs.Edits.{list_get, list_set}
use Rattle.fib_base_blocks.proofs.Laid.{row_is, set_laid}
use Rattle.fib_base_blocks.proofs.list.Blocks.at_mut.Goals as goal

pub invariant_of-self-lent : goal.invariant_of-self-lent
invariant_of-self-lent g c w =
    let bs = c.self.inside.blocks.items in
    let at = subst (λ l. IsPlace l c.args.place c.find-at.result.block c.find-at.result.slot) c.as_slice.ensures.value c.find-at.ensures in
    let less = at.within (subst (λ l. c.args.place < length l) (sym c.self.view_is) c.requires) in
    let same = row_is bs c.find-at.result.block c.index_mut.result.now at.inside c.index_mut.ensures.value in
    let b = with_item c.index_mut.result.now c.find-at.result.slot w in
    let e = ap (λ l. set l c.find-at.result.slot w) (sym same) in
    record {
      blocks = set_laid bs c.self.inside.starts.items c.find-at.result.block c.self.invariant.blocks at.inside b c.find-at.result.slot w e;
      count = c.self.invariant.count ∙ sym (ap length (list_set items_of bs c.find-at.result.block c.find-at.result.slot c.args.place b w at.inside at.place less e) ∙ length-set (flat_map items_of bs) c.args.place w);
    }

pub returns : goal.returns
returns g c =
    let bs = c.self.inside.blocks.items in
    let at = subst (λ l. IsPlace l c.args.place c.find-at.result.block c.find-at.result.slot) c.as_slice.ensures.value c.find-at.ensures in
    let less = at.within (subst (λ l. c.args.place < length l) (sym c.self.view_is) c.requires) in
    let same = row_is bs c.find-at.result.block c.index_mut.result.now at.inside c.index_mut.ensures.value in (
      (refl, λ w. list_set items_of bs c.find-at.result.block c.find-at.result.slot c.args.place (with_item c.index_mut.result.now c.find-at.result.slot w) w at.inside at.place less (ap (λ l. set l c.find-at.result.slot w) (sym same)) ∙ ap (λ l. set l c.args.place w) c.self.view_is),
      record {
        writes_back = tt;
        value = c.index_mut-2.ensures.value ∙ (sym (list_get items_of bs c.find-at.result.block c.find-at.result.slot c.args.place c.index_mut.result.now c.index_mut-2.result.now at.inside at.place less c.index_mut.ensures.value) ∙ ap (λ l. get_or l c.args.place c.index_mut-2.result.now) c.self.view_is);
      },
    )
