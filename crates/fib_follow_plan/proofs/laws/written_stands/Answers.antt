use Rattle.fib_follow_plan.proofs.Rows.{moved_after, stands_after}
use Rattle.fib_follow_plan.proofs.laws.written_stands.Goals as goal

pub returns-clause-stands : goal.returns-clause-stands
returns-clause-stands c =
    λ v S T p ranks list bodies x order after new later objects w u s h are. stands_after v S T p ranks list bodies x new later after w s h objects are

pub returns-clause-moved : goal.returns-clause-moved
returns-clause-moved c =
    λ v S T p ranks list bodies x order after new later told w u s h are. moved_after v S T p ranks list bodies x new later after w s h told are
