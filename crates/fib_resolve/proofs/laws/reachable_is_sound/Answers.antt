use Rattle.fib_resolve.proofs.Sound.{reachable_sound}
use Rattle.fib_resolve.proofs.laws.reachable_is_sound.Goals as goal

pub returns : goal.returns
returns c = reachable_sound
