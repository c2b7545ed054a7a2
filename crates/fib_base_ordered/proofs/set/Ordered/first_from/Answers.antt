use Rattle.std.proofs.Common.{sym, subst, ◌∙◌}
use Rattle.std.specs.Prelude.{flat_map}
use Rattle.fib_base_ordered.specs.Sets.{first_of}
use Rattle.fib_base_ordered.specs.inner.Blocks.{items_of, before, after, IsCut}
use Rattle.fib_base_ordered.proofs.Sets.{first_is, moved}
use Rattle.fib_base_ordered.proofs.set.Ordered.first_from.Goals as goal

pub returns-clause-first : goal.returns-clause-first
returns-clause-first g c =
    let bs = c.self.inside.blocks.items in
    let p = c.locate-place.result in
    let cut = subst (λ l. IsCut g.T.Keyed.rank c.args.key (flat_map items_of l) (before items_of l p.block p.slot) (after items_of l p.block p.slot)) c.as_slice-blocks.ensures.value c.locate-place.ensures.cut in
    let first = moved (λ l. first_of (after items_of l p.block p.slot)) _ _ _ c.as_slice-blocks.ensures.value c.peek.ensures in
    rw (← c.self.view_is) (sym first ∙ first_is g.T.Keyed.rank c.args.key (flat_map items_of bs) (before items_of bs p.block p.slot) (after items_of bs p.block p.slot) cut c.self.invariant.ordered)
