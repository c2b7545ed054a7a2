use Rattle.std.proofs.Common.{sym, ap, subst, ◌∙◌}
use Rattle.std.specs.Prelude.{flat_map}
use Rattle.fib_base_ordered.specs.Sets.{IsAscending, found, first_of}
use Rattle.fib_base_ordered.specs.inner.Blocks.{items_of, before, after, IsCut}
use Rattle.fib_base_ordered.proofs.Sets.{absent, absent_found, no_first, other_first, same_first, out_members, out_found, out_ascending, moved}
use Rattle.fib_base_ordered.proofs.Spans.{covers_out}
use Rattle.fib_base_ordered.proofs.set.Ordered.remove.Goals as goal

pub returns-in_err-member-clause-removed : goal.returns-in_err-member-clause-removed
returns-in_err-member-clause-removed g c =
    let bs = c.self.inside.blocks.items in
    let p = c.locate-place.result in
    let cut = subst (λ l. IsCut g.T.Keyed.rank c.args.key (flat_map items_of l) (before items_of l p.block p.slot) (after items_of l p.block p.slot)) c.as_slice-blocks.ensures.value c.locate-place.ensures.cut in
    let first = moved (λ l. first_of (after items_of l p.block p.slot)) _ _ _ c.as_slice-blocks.ensures.value c.in_err-member.ensures in
    rw (← c.self.view_is) (c.from_residual.ensures ∙ sym (no_first g.T.Keyed.rank c.args.key (flat_map items_of bs) (before items_of bs p.block p.slot) (after items_of bs p.block p.slot) cut c.self.invariant.ordered first))

pub returns-in_err-member-clause-members : goal.returns-in_err-member-clause-members
returns-in_err-member-clause-members g c =
    let bs = c.self.inside.blocks.items in
    let p = c.locate-place.result in
    let cut = subst (λ l. IsCut g.T.Keyed.rank c.args.key (flat_map items_of l) (before items_of l p.block p.slot) (after items_of l p.block p.slot)) c.as_slice-blocks.ensures.value c.locate-place.ensures.cut in
    let first = moved (λ l. first_of (after items_of l p.block p.slot)) _ _ _ c.as_slice-blocks.ensures.value c.in_err-member.ensures in
    rw (← c.self.view_is) (absent g.T.Keyed.rank c.args.key (flat_map items_of bs) (before items_of bs p.block p.slot) (after items_of bs p.block p.slot) cut c.self.invariant.ordered (no_first g.T.Keyed.rank c.args.key (flat_map items_of bs) (before items_of bs p.block p.slot) (after items_of bs p.block p.slot) cut c.self.invariant.ordered first))

pub returns-in_err-member-clause-found : goal.returns-in_err-member-clause-found
returns-in_err-member-clause-found g c =
    let bs = c.self.inside.blocks.items in
    let p = c.locate-place.result in
    let cut = subst (λ l. IsCut g.T.Keyed.rank c.args.key (flat_map items_of l) (before items_of l p.block p.slot) (after items_of l p.block p.slot)) c.as_slice-blocks.ensures.value c.locate-place.ensures.cut in
    let first = moved (λ l. first_of (after items_of l p.block p.slot)) _ _ _ c.as_slice-blocks.ensures.value c.in_err-member.ensures in
    rw (← c.self.view_is) (absent_found g.T.Keyed.rank c.args.key (flat_map items_of bs) (before items_of bs p.block p.slot) (after items_of bs p.block p.slot) cut c.self.invariant.ordered (no_first g.T.Keyed.rank c.args.key (flat_map items_of bs) (before items_of bs p.block p.slot) (after items_of bs p.block p.slot) cut c.self.invariant.ordered first))

pub returns-then-key-clause-removed : goal.returns-then-key-clause-removed
returns-then-key-clause-removed g c =
    let bs = c.self.inside.blocks.items in
    let p = c.locate-place.result in
    let cut = subst (λ l. IsCut g.T.Keyed.rank c.args.key (flat_map items_of l) (before items_of l p.block p.slot) (after items_of l p.block p.slot)) c.as_slice-blocks.ensures.value c.locate-place.ensures.cut in
    let first = moved (λ l. first_of (after items_of l p.block p.slot)) _ _ _ c.as_slice-blocks.ensures.value c.in_ok-member.ensures in
    rw (← c.self.view_is) (sym (other_first g.T.Keyed.rank c.args.key (flat_map items_of bs) (before items_of bs p.block p.slot) (after items_of bs p.block p.slot) cut c.self.invariant.ordered _ first (λ e. c.if-key.true (c.key.ensures ∙ e))))

pub returns-then-key-clause-members : goal.returns-then-key-clause-members
returns-then-key-clause-members g c =
    let bs = c.self.inside.blocks.items in
    let p = c.locate-place.result in
    let cut = subst (λ l. IsCut g.T.Keyed.rank c.args.key (flat_map items_of l) (before items_of l p.block p.slot) (after items_of l p.block p.slot)) c.as_slice-blocks.ensures.value c.locate-place.ensures.cut in
    let first = moved (λ l. first_of (after items_of l p.block p.slot)) _ _ _ c.as_slice-blocks.ensures.value c.in_ok-member.ensures in
    rw (← c.self.view_is) (absent g.T.Keyed.rank c.args.key (flat_map items_of bs) (before items_of bs p.block p.slot) (after items_of bs p.block p.slot) cut c.self.invariant.ordered (other_first g.T.Keyed.rank c.args.key (flat_map items_of bs) (before items_of bs p.block p.slot) (after items_of bs p.block p.slot) cut c.self.invariant.ordered _ first (λ e. c.if-key.true (c.key.ensures ∙ e))))

pub returns-then-key-clause-found : goal.returns-then-key-clause-found
returns-then-key-clause-found g c =
    let bs = c.self.inside.blocks.items in
    let p = c.locate-place.result in
    let cut = subst (λ l. IsCut g.T.Keyed.rank c.args.key (flat_map items_of l) (before items_of l p.block p.slot) (after items_of l p.block p.slot)) c.as_slice-blocks.ensures.value c.locate-place.ensures.cut in
    let first = moved (λ l. first_of (after items_of l p.block p.slot)) _ _ _ c.as_slice-blocks.ensures.value c.in_ok-member.ensures in
    rw (← c.self.view_is) (absent_found g.T.Keyed.rank c.args.key (flat_map items_of bs) (before items_of bs p.block p.slot) (after items_of bs p.block p.slot) cut c.self.invariant.ordered (other_first g.T.Keyed.rank c.args.key (flat_map items_of bs) (before items_of bs p.block p.slot) (after items_of bs p.block p.slot) cut c.self.invariant.ordered _ first (λ e. c.if-key.true (c.key.ensures ∙ e))))

pub returns-clause-removed : goal.returns-clause-removed
returns-clause-removed g c =
    let bs = c.self.inside.blocks.items in
    let p = c.locate-place.result in
    let cut = subst (λ l. IsCut g.T.Keyed.rank c.args.key (flat_map items_of l) (before items_of l p.block p.slot) (after items_of l p.block p.slot)) c.as_slice-blocks.ensures.value c.locate-place.ensures.cut in
    let first = moved (λ l. first_of (after items_of l p.block p.slot)) _ _ _ c.as_slice-blocks.ensures.value c.in_ok-member.ensures in
    rw (← c.self.view_is) (sym (same_first g.T.Keyed.rank c.args.key (flat_map items_of bs) (before items_of bs p.block p.slot) (after items_of bs p.block p.slot) cut c.self.invariant.ordered _ first (sym c.key.ensures ∙ c.if-key.false)))

pub returns-clause-members : goal.returns-clause-members
returns-clause-members g c =
    let bs = c.self.inside.blocks.items in
    let p = c.locate-place.result in
    let cut = subst (λ l. IsCut g.T.Keyed.rank c.args.key (flat_map items_of l) (before items_of l p.block p.slot) (after items_of l p.block p.slot)) c.as_slice-blocks.ensures.value c.locate-place.ensures.cut in
    let first = moved (λ l. first_of (after items_of l p.block p.slot)) _ _ _ c.as_slice-blocks.ensures.value c.in_ok-member.ensures in
    rw (← c.self.view_is) (c.take_out.ensures.members ∙ out_members g.T.Keyed.rank c.args.key (flat_map items_of bs) (before items_of bs p.block p.slot) (after items_of bs p.block p.slot) cut c.self.invariant.ordered _ first (sym c.key.ensures ∙ c.if-key.false))

pub returns-clause-found : goal.returns-clause-found
returns-clause-found g c =
    let bs = c.self.inside.blocks.items in
    let p = c.locate-place.result in
    let cut = subst (λ l. IsCut g.T.Keyed.rank c.args.key (flat_map items_of l) (before items_of l p.block p.slot) (after items_of l p.block p.slot)) c.as_slice-blocks.ensures.value c.locate-place.ensures.cut in
    let first = moved (λ l. first_of (after items_of l p.block p.slot)) _ _ _ c.as_slice-blocks.ensures.value c.in_ok-member.ensures in
    rw (← c.self.view_is) (λ other. ap (λ l. found g.T.Keyed.rank l other) c.take_out.ensures.members ∙ out_found g.T.Keyed.rank c.args.key (flat_map items_of bs) (before items_of bs p.block p.slot) (after items_of bs p.block p.slot) cut c.self.invariant.ordered _ first (sym c.key.ensures ∙ c.if-key.false) other)

pub returns-clause-ordered : goal.returns-clause-ordered
returns-clause-ordered g c =
    let bs = c.self.inside.blocks.items in
    let p = c.locate-place.result in
    let cut = subst (λ l. IsCut g.T.Keyed.rank c.args.key (flat_map items_of l) (before items_of l p.block p.slot) (after items_of l p.block p.slot)) c.as_slice-blocks.ensures.value c.locate-place.ensures.cut in
    let first = moved (λ l. first_of (after items_of l p.block p.slot)) _ _ _ c.as_slice-blocks.ensures.value c.in_ok-member.ensures in
    subst (IsAscending g.T.Keyed.rank) (sym c.take_out.ensures.members) (out_ascending g.T.Keyed.rank c.args.key (flat_map items_of bs) (before items_of bs p.block p.slot) (after items_of bs p.block p.slot) cut c.self.invariant.ordered _ first (sym c.key.ensures ∙ c.if-key.false))

pub invariant_of-self : goal.invariant_of-self
invariant_of-self g c =
    let bs = c.self.inside.blocks.items in
    let p = c.locate-place.result in
    let cut = subst (λ l. IsCut g.T.Keyed.rank c.args.key (flat_map items_of l) (before items_of l p.block p.slot) (after items_of l p.block p.slot)) c.as_slice-blocks.ensures.value c.locate-place.ensures.cut in
    let first = moved (λ l. first_of (after items_of l p.block p.slot)) _ _ _ c.as_slice-blocks.ensures.value c.in_ok-member.ensures in
    record { ordered = subst (IsAscending g.T.Keyed.rank) (sym c.take_out.ensures.members) (out_ascending g.T.Keyed.rank c.args.key (flat_map items_of bs) (before items_of bs p.block p.slot) (after items_of bs p.block p.slot) cut c.self.invariant.ordered _ first (sym c.key.ensures ∙ c.if-key.false)); filled = c.take_out.ensures.filled; empty = c.take_out.ensures.idle; roomy = c.take_out.ensures.roomy; covered = covers_out c.self.inside.spare _ _ _ _ c.self.invariant.covered c.take_out.ensures.all c.take_out.ensures.spare c.take_out.ensures.cost }
