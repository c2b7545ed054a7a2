use Rattle.fib_resolve.proofs.Sound.{sound_edit}
use Rattle.fib_resolve.proofs.laws.edits_keep_sound.Goals as goal

pub returns : goal.returns
returns c = sound_edit
