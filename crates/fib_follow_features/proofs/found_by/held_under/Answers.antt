use Rattle.std.proofs.Common.{true, false, sym, ◌∙◌, ap}
use Rattle.fib_follow_features.specs.FoundBy.{cover_among, held_list, host_under}
use Rattle.fib_follow_features.proofs.Gathered.{under_is}
use Rattle.fib_follow_features.proofs.found_by.held_under.Goals as goal

pub returns-then-has_by_cover : goal.returns-then-has_by_cover
returns-then-has_by_cover c = λ lists.
    c.host_under.ensures ∙ (ap (host_under c.args.e) c.cover_among.ensures
    ∙ under_is (held_list lists) c.args.e (cover_among c.args.order.now c.args.e) c.args.held.now true
    (sym c.if-has_by_cover.true ∙ c.has_by_cover.ensures))

pub returns-else-has_by_cover : goal.returns-else-has_by_cover
returns-else-has_by_cover c = λ lists.
    under_is (held_list lists) c.args.e (cover_among c.args.order.now c.args.e) c.args.held.now false
    (sym c.if-has_by_cover.false ∙ c.has_by_cover.ensures)
