use Rattle.std.proofs.Common.{true, false, sym, ◌∙◌}
use Rattle.fib_follow_features.specs.FoundBy.{held_list}
use Rattle.fib_follow_features.proofs.Gathered.{under_is}
use Rattle.fib_follow_features.proofs.found_by.under_cover.Goals as goal

pub returns-then-has_by_cover : goal.returns-then-has_by_cover
returns-then-has_by_cover c = λ lists.
    c.host_under.ensures ∙ under_is (held_list lists) c.args.e c.args.cover c.args.held.now true
    (sym c.if-has_by_cover.true ∙ c.has_by_cover.ensures)

pub returns-else-has_by_cover : goal.returns-else-has_by_cover
returns-else-has_by_cover c = λ lists.
    under_is (held_list lists) c.args.e c.args.cover c.args.held.now false (sym c.if-has_by_cover.false ∙ c.has_by_cover.ensures)
