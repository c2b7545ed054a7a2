use Rattle.std.proofs.Common.{subst}
use Rattle.std.specs.Prelude.{Contains}
use Rattle.fib_follow_write.proofs.writing.come_both.Goals as goal

pub join_all-requires-clause-absent : goal.join_all-requires-clause-absent
join_all-requires-clause-absent c = λ p d e. c.requires.absent p d (subst (λ l. Contains l p) c.requires.same e)
