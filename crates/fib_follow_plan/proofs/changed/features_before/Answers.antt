use Rattle.std.proofs.Common.{map, sym, ap, ap₂, ◌∙◌}
use Rattle.std.proofs.lemmas.Result.{IfOk-weaker}
use Rattle.fib_entries_rows.specs.Known.{prefix_of, row_of}
use Rattle.fib_follow_features.specs.FoundBy.{row_features}
use Rattle.fib_follow_plan.specs.Noted.{features_before}
use Rattle.fib_follow_plan.proofs.changed.features_before.Goals as goal

pub returns-in-Some : goal.returns-in-Some
returns-in-Some c =
    let v = c.args.view.now in
    let row = c.in-Some.row.now in
    let at = ap (λ b. row_of b.rows c.args.e) (sym c.before-before.ensures) ∙ sym c.in-Some.ensures.value in
    IfOk-weaker c.row_features.result _ _
    (λ out is. is
    ∙ ap₂ (λ l order. row_features l order row) (c.lists.ensures ∙ ap (λ b. b.lists) c.before-before.ensures)
    (c.order.ensures.same ∙ ap (λ b. map prefix_of b.rows) c.before-before.ensures)
    ∙ ap (features_before v.before.lists (map prefix_of v.before.rows)) (sym at)) c.row_features.ensures

pub returns-in-None : goal.returns-in-None
returns-in-None c =
    let v = c.args.view.now in
    let at = ap (λ b. row_of b.rows c.args.e) (sym c.before-before.ensures) ∙ sym c.in-None.ensures.value in
    c.new.ensures.items ∙ ap (features_before v.before.lists (map prefix_of v.before.rows)) (sym at)
