use Rattle.std.proofs.Common.{map, ◌∙◌, ap, ap₂}
use Rattle.std.proofs.lemmas.Result.{IfOk-weaker}
use Rattle.fib_follow_features.specs.FoundBy.{cover_among, features_of, held_list}
use Rattle.fib_follow_features.proofs.found_by.row_features.Goals as goal

pub returns : goal.returns
returns c =
    IfOk-weaker c.held_features.result _ _
    (λ v is. is ∙ ap₂ (λ e l. features_of e (cover_among c.args.order.now e) (map (held_list c.args.lists.now) l))
    (ap (λ z. z.prefix) c.row.view_is) c.pairs.ensures) c.held_features.ensures
