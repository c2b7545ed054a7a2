use Rattle.std.specs.Prelude.{Contains}
use Rattle.fib_core_board.proofs.Serving.{serves_clear, serves_cleared}
use Rattle.fib_core_board.proofs.laws.what_is_not_held_may_be_cleared.Goals as goal

pub returns-clause-may : goal.returns-clause-may
returns-clause-may c = λ b held o free ok. serves_clear b (Contains held) o free ok

pub returns-clause-kept : goal.returns-clause-kept
returns-clause-kept c = λ b held k other none free ok. serves_cleared b (Contains held) k other none free ok
