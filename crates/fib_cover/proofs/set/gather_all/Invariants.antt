use Rattle.std.proofs.Common.{◌≡◌, ◌++◌}
use Rattle.fib_cover.proofs.set.gather_all.Given as goal

abbrev pub invariant-loop-member : goal.invariant-loop-member
invariant-loop-member l = l.out.items ++ l.member-iterator ≡ l.members.keys
