use Rattle.std.proofs.Common.{arith}
use Rattle.fib_stack_ledger.proofs.LateLists.{apart_removed, of_removed}
use Rattle.fib_stack_ledger.proofs.late.Lates.take_out.Goals as goal

pub invariant_of-self : goal.invariant_of-self
invariant_of-self c =
    let xs = c.self.inside.list.items in
    rw c.remove.ensures.items (apart_removed xs c.args.place c.self.invariant.0, of_removed xs c.args.place c.self.invariant.1, grind (arith))
