use Rattle.std.proofs.Common.{[], subst, ◌∙◌}
use Rattle.fib_resolve.specs.Tables.{IsSound}
use Rattle.fib_follow_looked.specs.declared.shorts.Turn.TheVariants as turns
use Rattle.fib_follow_looked.specs.inner.Adding.{AddsEach}
use Rattle.fib_follow_looked.specs.inner.Turning.{is_turn}
use Rattle.fib_follow_looked.proofs.Turning.{TurnsAmong, are_shorts}
use Rattle.fib_follow_looked.proofs.shorts.Shorts.of.Goals as goal

pub returns : goal.returns
returns c = λ list S h are.
    let T = c.args.after.now.tables in
    let turned = c.in_ok-turned.turned in
    are_shorts c.args.before.now list S T c.args.named.now _ h (subst IsSound c.tables-tables.ensures.value c.tables-tables.ensures.sound) are
    (subst (λ l. TurnsAmong S T l turned.items) (c.as_slice.ensures.value ∙ c.in_ok-list.ensures.listed) (c.in_ok-turned.ensures S h.stands))
    (subst (λ l. AddsEach (is_turn turns.Comes) l [] c.in_ok-come.come) c.as_slice-2.ensures.value c.in_ok-come.ensures.each)
    (subst (λ l. AddsEach (is_turn turns.Goes) l [] c.in_ok-gone.gone) c.as_slice-3.ensures.value c.in_ok-gone.ensures.each)
