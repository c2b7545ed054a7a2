use Rattle.std.proofs.Common.{◌≤◌, ◌+◌, ◌/◌, ◌⊎◌, length, arith, sym, ap, subst}
use Rattle.std.specs.List.{AllByRecursion}
use Rattle.fib_base_ordered.specs.inner.Blocks.{IsFilled}
use Rattle.fib_base_ordered.proofs.Spans.{covers_more}
use Rattle.fib_base_ordered.proofs.set.make_room.Goals as goal

pub returns-clause-room : goal.returns-clause-room
returns-clause-room g c = λ filled. covers_more c.args.more c.enough-wanted.result c.loop-alloc.blocks.items c.loop-alloc.idle.items
    (subst (AllByRecursion IsFilled) (sym c.loop-alloc.invariant.same) filled)
    (subst (λ n. (c.args.more ≤ c.enough-wanted.result) ⊎ (n + c.args.more / 32 + 2 ≤ c.enough-wanted.result)) (omega (arith, ap length c.loop-alloc.invariant.same, c.len.ensures)) c.enough-wanted.ensures)
    (omega (arith, c.loop-alloc-test.false))
