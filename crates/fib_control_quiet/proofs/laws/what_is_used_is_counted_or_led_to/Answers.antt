use Rattle.fib_control_quiet.proofs.Using.{accounted}
use Rattle.fib_control_quiet.proofs.laws.what_is_used_is_counted_or_led_to.Goals as goal

pub returns : goal.returns
returns c = accounted
