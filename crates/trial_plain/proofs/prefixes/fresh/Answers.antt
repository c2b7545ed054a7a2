use Rattle.std.proofs.Common.{arith, refl}
use Rattle.fib_control_quiet.proofs.Early.{bare_empty}
use Rattle.trial_plain.proofs.Starting.{is_fresh}
use Rattle.trial_plain.proofs.prefixes.fresh.Goals as goal

pub new-requires-2 : goal.new-requires-2
new-requires-2 c = is_fresh 128 c.in_ok-board.board (record { least = omega arith; most = omega arith; even = refl; some = omega arith; eight = omega arith }) c.in_ok-board.ensures

pub returns-clause-empty : goal.returns-clause-empty
returns-clause-empty c = bare_empty _ _ c.in_ok-shared.ensures.bare

pub returns-clause-users : goal.returns-clause-users
returns-clause-users c = c.in_ok-shared.ensures.bare.users
