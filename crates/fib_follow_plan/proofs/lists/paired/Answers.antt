use Rattle.std.proofs.Common.{arith}
use Rattle.fib_follow_plan.specs.Made.{has_pairs, paired_of}
use Rattle.fib_follow_plan.proofs.Picked.{picked_all}
use Rattle.fib_follow_plan.proofs.lists.paired.Goals as goal

pub returns : goal.returns
returns c = picked_all has_pairs paired_of c.changed-changed.result.now c.args.view.now.changed c.changed.place (let over = c.changed-test.false in let n = c.len-place-end.ensures in omega (arith, over, n)) c.changed-changed.ensures.changed c.changed.out c.changed.invariant
