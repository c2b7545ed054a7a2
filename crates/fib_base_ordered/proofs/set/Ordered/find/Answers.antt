use Rattle.std.proofs.Common.{sym, subst, ◌∙◌}
use Rattle.std.specs.Prelude.{flat_map}
use Rattle.fib_base_ordered.specs.Sets.{first_of}
use Rattle.fib_base_ordered.specs.inner.Blocks.{items_of, before, after, IsCut}
use Rattle.fib_base_ordered.proofs.Sets.{no_first, other_first, same_first, moved}
use Rattle.fib_base_ordered.proofs.set.Ordered.find.Goals as goal

pub returns-in_err-first : goal.returns-in_err-first
returns-in_err-first g c =
    let bs = c.self.inside.blocks.items in
    let p = c.locate-place.result in
    let cut = subst (λ l. IsCut g.T.Keyed.rank c.args.key (flat_map items_of l) (before items_of l p.block p.slot) (after items_of l p.block p.slot)) c.as_slice-blocks.ensures.value c.locate-place.ensures.cut in
    let first = moved (λ l. first_of (after items_of l p.block p.slot)) _ _ _ c.as_slice-blocks.ensures.value c.in_err-first.ensures in
    rw (← c.self.view_is) (c.from_residual.ensures ∙ sym (no_first g.T.Keyed.rank c.args.key (flat_map items_of bs) (before items_of bs p.block p.slot) (after items_of bs p.block p.slot) cut c.self.invariant.ordered first))

pub returns-then-key : goal.returns-then-key
returns-then-key g c =
    let bs = c.self.inside.blocks.items in
    let p = c.locate-place.result in
    let cut = subst (λ l. IsCut g.T.Keyed.rank c.args.key (flat_map items_of l) (before items_of l p.block p.slot) (after items_of l p.block p.slot)) c.as_slice-blocks.ensures.value c.locate-place.ensures.cut in
    let first = moved (λ l. first_of (after items_of l p.block p.slot)) _ _ _ c.as_slice-blocks.ensures.value c.in_ok-first.ensures in
    rw (← c.self.view_is) (sym (same_first g.T.Keyed.rank c.args.key (flat_map items_of bs) (before items_of bs p.block p.slot) (after items_of bs p.block p.slot) cut c.self.invariant.ordered _ first (sym c.key.ensures ∙ c.if-key.true)))

pub returns-else-key : goal.returns-else-key
returns-else-key g c =
    let bs = c.self.inside.blocks.items in
    let p = c.locate-place.result in
    let cut = subst (λ l. IsCut g.T.Keyed.rank c.args.key (flat_map items_of l) (before items_of l p.block p.slot) (after items_of l p.block p.slot)) c.as_slice-blocks.ensures.value c.locate-place.ensures.cut in
    let first = moved (λ l. first_of (after items_of l p.block p.slot)) _ _ _ c.as_slice-blocks.ensures.value c.in_ok-first.ensures in
    rw (← c.self.view_is) (sym (other_first g.T.Keyed.rank c.args.key (flat_map items_of bs) (before items_of bs p.block p.slot) (after items_of bs p.block p.slot) cut c.self.invariant.ordered _ first (λ e. c.if-key.false (c.key.ensures ∙ e))))
