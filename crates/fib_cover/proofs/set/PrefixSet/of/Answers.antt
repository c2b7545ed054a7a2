use Rattle.std.proofs.Common.{subst, ◌↔◌}
use Rattle.std.specs.Prelude.{Contains}
use Rattle.fib_cover.proofs.Sets.{one_in, take_whole}
use Rattle.fib_cover.proofs.set.PrefixSet.of.Goals as goal

pub loop-p-preserved : goal.loop-p-preserved
loop-p-preserved c = one_in c.loop-p.set c.insert.new.self c.args.prefixes.now c.loop-p.p-index c.p-item.result c.loop-p-test.true c.p-item.is c.loop-p.invariant c.in_ok-insert.ensures.members

pub returns : goal.returns
returns c = λ q. subst (λ l. Contains c.loop-p.set q ↔ Contains l q) (take_whole c.args.prefixes.now c.loop-p.p-index c.loop-p-test.false) (c.loop-p.invariant q)
