use Rattle.std.proofs.Common.{sym, ap, subst, ◌∙◌}
use Rattle.std.specs.Prelude.{flat_map}
use Rattle.fib_base_ordered.specs.Sets.{last_of}
use Rattle.fib_base_ordered.specs.inner.Blocks.{items_of, before, after, IsCut}
use Rattle.fib_base_ordered.proofs.Rows.{empty_before}
use Rattle.fib_base_ordered.proofs.Sets.{below_is, moved}
use Rattle.fib_base_ordered.proofs.set.Ordered.last_below.Goals as goal

pub returns-clause-last : goal.returns-clause-last
returns-clause-last g c =
    let bs = c.self.inside.blocks.items in
    let p = c.cut-place.result in
    let cut = subst (λ l. IsCut g.T.Keyed.rank c.args.key (flat_map items_of l) (before items_of l p.block p.slot) (after items_of l p.block p.slot)) c.as_slice-blocks.ensures.value c.cut-place.ensures.cut in
    let last = moved (λ l. last_of (before items_of l p.block p.slot)) _ _ _ c.as_slice-blocks.ensures.value c.peek_back.ensures in
    rw (← c.self.view_is) (sym last ∙ ap last_of (sym (below_is g.T.Keyed.rank c.args.key (flat_map items_of bs) (before items_of bs p.block p.slot) (after items_of bs p.block p.slot) cut)))

pub returns-then-place-eq0-clause-last : goal.returns-then-place-eq0-clause-last
returns-then-place-eq0-clause-last g c =
    let bs = c.self.inside.blocks.items in
    let p = c.cut-place.result in
    let cut = subst (λ l. IsCut g.T.Keyed.rank c.args.key (flat_map items_of l) (before items_of l p.block p.slot) (after items_of l p.block p.slot)) c.as_slice-blocks.ensures.value c.cut-place.ensures.cut in
    rw (← c.self.view_is) (sym (ap last_of (below_is g.T.Keyed.rank c.args.key (flat_map items_of bs) (before items_of bs p.block p.slot) (after items_of bs p.block p.slot) cut ∙ empty_before items_of bs p.block p.slot (c.cut-place.ensures.edge c.if-place-eq0.true) c.if-place-eq0.true)))
