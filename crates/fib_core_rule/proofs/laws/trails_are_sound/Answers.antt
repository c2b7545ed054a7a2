use Rattle.fib_core_rule.proofs.Tells.{trail_sound}
use Rattle.fib_core_rule.proofs.laws.trails_are_sound.Goals as goal

pub returns : goal.returns
returns c = λ objects id words views v s at. trail_sound objects words views s id v at
