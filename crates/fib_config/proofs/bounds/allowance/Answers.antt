use Rattle.std.proofs.Common.{arith}
use Rattle.fib_config.proofs.Within.{allowance_reached}
use Rattle.fib_config.proofs.bounds.allowance.Goals as goal

pub returns : goal.returns
returns c =
    allowance_reached c.args.tables.now c.in_ok-hops.hops.items c.in_ok-prefixes.prefixes.items c.in_ok-ends.ends.items c.steps.result c.saturating_add-objects.result c.adjacencies-others.result c.saturating_add.result
    c.in_ok-hops.ensures
    (rw c.as_slice.ensures.value at c.in_ok-prefixes.ensures)
    c.in_ok-ends.ensures
    (rw c.as_slice-2.ensures.value at c.steps.ensures)
    (omega (arith, c.saturating_add-objects.ensures))
    (rw (c.as_slice-3.ensures.value, c.as_slice-4.ensures, c.as_slice-5.ensures.value) at c.adjacencies-others.ensures)
    (omega (arith, c.saturating_add.ensures))
