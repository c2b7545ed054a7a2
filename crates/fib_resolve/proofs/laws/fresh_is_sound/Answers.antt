use Rattle.fib_resolve.proofs.Sound.{sound_fresh}
use Rattle.fib_resolve.proofs.laws.fresh_is_sound.Goals as goal

pub returns : goal.returns
returns c = sound_fresh
