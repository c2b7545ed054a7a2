use Rattle.std.proofs.Common.{map, sym, ◌∙◌, ap, ap₂}
use Rattle.std.proofs.lemmas.Result.{IfOk-weaker}
use Rattle.fib_follow_features.specs.FoundBy.{features_of, held_list, under_of}
use Rattle.fib_follow_features.proofs.found_by.features_under.Goals as goal

pub returns : goal.returns
returns c =
    let lists = c.args.lists.now in
    IfOk-weaker c.list_features.result _ _
    (λ v is. is c.args.cover (c.under_cover-under.ensures lists
    ∙ ap (λ l. under_of c.row.inside.prefix c.args.cover (map (held_list lists) l)) (c.pairs.ensures ∙ sym c.pairs-2.ensures))
    ∙ ap₂ (λ e l. features_of e c.args.cover (map (held_list lists) l)) (ap (λ z. z.prefix) c.row.view_is) c.pairs-2.ensures)
    c.list_features.ensures
