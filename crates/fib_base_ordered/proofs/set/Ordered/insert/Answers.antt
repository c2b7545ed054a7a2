use Rattle.std.proofs.Common.{◌≡◌, None, sym, ap, subst, ◌∙◌}
use Rattle.std.specs.Prelude.{flat_map}
use Rattle.fib_base_ordered.specs.Sets.{IsAscending, found}
use Rattle.fib_base_ordered.specs.inner.Blocks.{items_of, before, after, IsCut}
use Rattle.fib_base_ordered.proofs.Sets.{in_members, in_found, in_ascending}
use Rattle.fib_base_ordered.proofs.Spans.{covers_put, some_idle}
use Rattle.fib_base_ordered.proofs.set.Ordered.insert.Goals as goal

pub returns-clause-members : goal.returns-clause-members
returns-clause-members g c =
    let bs = c.self.inside.blocks.items in
    let p = c.locate-place.result in
    let cut = subst (λ l. IsCut g.T.Keyed.rank c.key-key.result (flat_map items_of l) (before items_of l p.block p.slot) (after items_of l p.block p.slot)) c.as_slice-blocks.ensures.value c.locate-place.ensures.cut in
    rw (← c.self.view_is, ← c.key-key.ensures) (c.put_in.ensures.members ∙ in_members g.T.Keyed.rank c.key-key.result (flat_map items_of bs) (before items_of bs p.block p.slot) (after items_of bs p.block p.slot) cut c.self.invariant.ordered (subst (λ k. found g.T.Keyed.rank (flat_map items_of bs) k ≡ None) (sym c.key-key.ensures) (rw (← c.self.view_is) at c.requires.absent)) c.args.member (sym c.key-key.ensures))

pub returns-clause-found : goal.returns-clause-found
returns-clause-found g c =
    let bs = c.self.inside.blocks.items in
    let p = c.locate-place.result in
    let cut = subst (λ l. IsCut g.T.Keyed.rank c.key-key.result (flat_map items_of l) (before items_of l p.block p.slot) (after items_of l p.block p.slot)) c.as_slice-blocks.ensures.value c.locate-place.ensures.cut in
    rw (← c.self.view_is, ← c.key-key.ensures) (λ other. ap (λ l. found g.T.Keyed.rank l other) c.put_in.ensures.members ∙ in_found g.T.Keyed.rank c.key-key.result (flat_map items_of bs) (before items_of bs p.block p.slot) (after items_of bs p.block p.slot) cut c.self.invariant.ordered (subst (λ k. found g.T.Keyed.rank (flat_map items_of bs) k ≡ None) (sym c.key-key.ensures) (rw (← c.self.view_is) at c.requires.absent)) c.args.member (sym c.key-key.ensures) other)

pub returns-clause-ordered : goal.returns-clause-ordered
returns-clause-ordered g c =
    let bs = c.self.inside.blocks.items in
    let p = c.locate-place.result in
    let cut = subst (λ l. IsCut g.T.Keyed.rank c.key-key.result (flat_map items_of l) (before items_of l p.block p.slot) (after items_of l p.block p.slot)) c.as_slice-blocks.ensures.value c.locate-place.ensures.cut in
    subst (IsAscending g.T.Keyed.rank) (sym c.put_in.ensures.members) (in_ascending g.T.Keyed.rank c.key-key.result (flat_map items_of bs) (before items_of bs p.block p.slot) (after items_of bs p.block p.slot) cut c.self.invariant.ordered (subst (λ k. found g.T.Keyed.rank (flat_map items_of bs) k ≡ None) (sym c.key-key.ensures) (rw (← c.self.view_is) at c.requires.absent)) c.args.member (sym c.key-key.ensures))

pub invariant_of-self-2 : goal.invariant_of-self-2
invariant_of-self-2 g c =
    let bs = c.self.inside.blocks.items in
    let p = c.locate-place.result in
    let cut = subst (λ l. IsCut g.T.Keyed.rank c.key-key.result (flat_map items_of l) (before items_of l p.block p.slot) (after items_of l p.block p.slot)) c.as_slice-blocks.ensures.value c.locate-place.ensures.cut in
    record { ordered = subst (IsAscending g.T.Keyed.rank) (sym c.put_in.ensures.members) (in_ascending g.T.Keyed.rank c.key-key.result (flat_map items_of bs) (before items_of bs p.block p.slot) (after items_of bs p.block p.slot) cut c.self.invariant.ordered (subst (λ k. found g.T.Keyed.rank (flat_map items_of bs) k ≡ None) (sym c.key-key.ensures) (rw (← c.self.view_is) at c.requires.absent)) c.args.member (sym c.key-key.ensures)); filled = c.put_in.ensures.filled; empty = c.put_in.ensures.idle; roomy = c.put_in.ensures.roomy; covered = covers_put c.self.inside.spare _ _ _ _ (rw (← c.self.view_is) at c.requires.room) c.self.invariant.covered c.put_in.ensures.all c.put_in.ensures.spare c.put_in.ensures.cost }

pub put_in-requires-clause-some : goal.put_in-requires-clause-some
put_in-requires-clause-some g c = some_idle c.self.inside.spare c.self.inside.blocks.items c.self.inside.idle.items (rw (← c.self.view_is) at c.requires.room) c.self.invariant.covered
