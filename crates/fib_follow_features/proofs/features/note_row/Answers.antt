use Rattle.std.proofs.Common.{◌∙◌, ap, subst}
use Rattle.std.proofs.lemmas.Result.{on_ok_weaker}
use Rattle.fib_follow_features.specs.FoundBy.{row_features}
use Rattle.fib_follow_features.specs.Holders.{Notes}
use Rattle.fib_follow_features.proofs.features.note_row.Goals as goal

pub returns : goal.returns
returns c =
    let own = ap (λ z. z.prefix) c.row.view_is in
    on_ok_weaker c.note.result
    (λ notes. subst (λ e. Notes c.args.found.now c.note.new.self e (row_features c.args.lists.now c.args.order.now c.args.row.now)) own
    (subst (Notes c.args.found.now c.note.new.self c.row.inside.prefix) (c.as_slice.ensures.value ∙ c.in_ok-features.ensures) notes))
    c.note.ensures.ok
