use Rattle.std.proofs.Common.{true, false, sym, ◌∙◌}
use Rattle.fib_follow_features.specs.FoundBy.{pair_list}
use Rattle.fib_follow_features.proofs.Gathered.{under_is}
use Rattle.fib_follow_features.proofs.found_by.pair_under.Goals as goal

pub returns-then-has_pair_by_cover : goal.returns-then-has_pair_by_cover
returns-then-has_pair_by_cover c =
    c.host_under.ensures
    ∙ under_is pair_list c.args.e c.args.cover c.args.pairs.now true (sym c.if-has_pair_by_cover.true ∙ c.has_pair_by_cover.ensures)

pub returns-else-has_pair_by_cover : goal.returns-else-has_pair_by_cover
returns-else-has_pair_by_cover c =
    under_is pair_list c.args.e c.args.cover c.args.pairs.now false (sym c.if-has_pair_by_cover.false ∙ c.has_pair_by_cover.ensures)
