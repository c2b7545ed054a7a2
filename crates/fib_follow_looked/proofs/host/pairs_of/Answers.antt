use Rattle.std.proofs.Common.{ap, subst, sym, ◌∙◌}
use Rattle.fib_resolve.specs.Pairs.{pairs}
use Rattle.fib_resolve.specs.Tables.{IsSound}
use Rattle.fib_follow_pairs.specs.Fresh.{ArePairsAt}
use Rattle.fib_follow_looked.specs.inner.Finding.{with_late}
use Rattle.fib_follow_looked.proofs.Finding.{pairs_around}
use Rattle.fib_follow_looked.proofs.host.pairs_of.Goals as goal

pub returns : goal.returns
returns c = λ h.
    let T = c.args.config.now.tables in
    subst (ArePairsAt (pairs T) c.args.e) (sym (c.in_ok-add_late.ensures ∙ ap (λ a. with_late T a c.args.around.now c.in_ok-out.out.items) c.bits.ensures))
    (pairs_around T (subst IsSound c.tables-tables.ensures.value c.tables-tables.ensures.sound) c.args.e c.in_ok-out.out.items c.args.around.now
    c.in_ok-out.ensures h)
