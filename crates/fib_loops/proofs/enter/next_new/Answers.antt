use Rattle.std.proofs.Common.{arith}
use Rattle.std.proofs.lemmas.List.Elements.{Contains-get_or}
use Rattle.fib_loops.proofs.enter.next_new.Goals as goal

pub bounds-starts-targets : goal.bounds-starts-targets
bounds-starts-targets c = c.requires.inside _ (Contains-get_or c.args.targets.now c.loop-place.place 0 (omega arith))
