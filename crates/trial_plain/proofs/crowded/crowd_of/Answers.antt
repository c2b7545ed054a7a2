use Rattle.trial_plain.proofs.Crowding.{too_few}
use Rattle.trial_plain.proofs.crowded.crowd_of.Goals as goal

pub returns-in-Crowded-clause-few : goal.returns-in-Crowded-clause-few
returns-in-Crowded-clause-few c = λ s e tells. too_few s e c.args.made c.in-Crowded.free c.in-Crowded.wanted c.args.error c.in-Crowded.is tells
