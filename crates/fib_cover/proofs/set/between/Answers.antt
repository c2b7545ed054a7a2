use Rattle.fib_cover.proofs.set.between.Goals as goal

pub returns : goal.returns
returns c = let b = c.range.ensures.between c.new.ensures.exhausted in rw (← c.new.ensures.start, ← c.new.ensures.end, ← b) c.gather.ensures
