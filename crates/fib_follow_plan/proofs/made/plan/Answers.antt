use Rattle.std.proofs.Common.{List, map, sym, ap, ap₂, ◌∙◌, subst}
use Rattle.std.specs.Prelude.{Contains, filter}
use Rattle.fib_cover.specs.Covers.{IsAscending}
use Rattle.fib_entries_rows.specs.Known.{Known, prefix_of}
use Rattle.fib_follow_view.specs.declared.view.Anew.{Anew}
use Rattle.fib_follow_plan.specs.Made.{edge_of, is_fresh}
use Rattle.fib_follow_plan.proofs.Suits.{suits, suits_made}
use Rattle.fib_follow_plan.proofs.made.plan.Goals as goal

pub returns-clause-suits : goal.returns-clause-suits
returns-clause-suits c =
    let v = c.args.view.now in
    let ordered = subst (λ (k : Known). IsAscending (map prefix_of k.rows)) c.before-2.ensures c.order-order.ensures.ordered in
    suits_made v c.args.part.now c.args.ranks.now c.args.bodies c.args.edges.now c.in_ok-came.field-0 c.in_ok-gone.field-0 c.in_ok-paired.field-0
    c.in_ok-marks.field-0 c.in_ok-edges_in.field-0 c.in_ok-edges_out.field-0 c.in_ok-came.ensures c.in_ok-gone.ensures c.in_ok-paired.ensures
    c.in_ok-marks.ensures
    (c.in_ok-edges_in.ensures ∙ ap₂ (λ (k : Known) l. map edge_of (filter (is_fresh k.rows) l)) c.before-3.ensures c.as_slice.ensures)
    (c.in_ok-edges_out.ensures ∙ ap (map edge_of) c.as_slice-2.ensures)
    (suits v c.args.part.now c.args.ranks.now c.args.bodies c.args.edges.now ordered c.changed.ensures.ordered c.requires)

pub returns-clause-prefixes : goal.returns-clause-prefixes
returns-clause-prefixes c = λ x k. c.see_prefixes.ensures x (subst (λ (l : List Anew). Contains l x) (sym c.changed.ensures.changed) k)
