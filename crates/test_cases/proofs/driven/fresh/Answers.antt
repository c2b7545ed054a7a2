use Rattle.std.proofs.Common.{arith}
use Rattle.trial_plain.proofs.Seating.{rested_by}
use Rattle.test_cases.proofs.driven.fresh.Goals as goal

pub returns-in-Ok : goal.returns-in-Ok
returns-in-Ok c = rested_by 0 _ (omega arith) c.in-Ok.ensures
