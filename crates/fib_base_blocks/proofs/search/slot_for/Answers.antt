use Rattle.std.proofs.Common.{arith, ◌≡◌, get_or, subst}
use Rattle.std.specs.declared.cmp.Ordering.TheVariants.{Greater}
use Rattle.fib_base_blocks.proofs.Searching.{ends}
use Rattle.fib_base_blocks.proofs.search.slot_for.Goals as goal

pub returns-clause-position : goal.returns-clause-position
returns-clause-position g c =
    let at : c.loop-low.high ≡ c.loop-low.low = omega (arith, c.loop-low-test.false, c.loop-low.invariant.order) in
    ends (g.S.Sought.order c.args.sought.now) c.args.items.now c.loop-low.low (omega (arith, c.loop-low.invariant.order)) c.loop-low.invariant.low
    (λ d less. subst (λ n. g.S.Sought.order c.args.sought.now (get_or c.args.items.now n d) ≡ Greater) at (c.loop-low.invariant.high d (omega arith)))
