use Rattle.trial_plain.proofs.held.goes_along.Goals as goal

pub returns : goal.returns
returns g c = c.tells_of_passes.ensures 0
