use Rattle.std.proofs.Common.{ℕ, ◌-◌}
use Rattle.fib_union.proofs.Marks.{changed_all}
use Rattle.fib_union.proofs.newest.lower.Goals as goal

pub returns : goal.returns
returns c = changed_all (λ (m : ℕ). m - c.args.by) c.args.numbers.now c.loop-number.number-items c.loop-number.number-index c.loop-number.auto.number-items c.loop-number-test.false c.loop-number.invariant.done
