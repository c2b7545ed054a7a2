use Rattle.std.proofs.lemmas.Result.{IfOk-weaker}
use Rattle.fib_follow_features.specs.FoundBy.{cover_among}
use Rattle.fib_follow_features.proofs.found_by.held_features.Goals as goal

pub returns : goal.returns
returns c =
    IfOk-weaker c.list_features.result _ _ (λ v is. is (cover_among c.args.order.now c.args.e) (c.held_under.ensures c.args.lists.now))
    c.list_features.ensures
