use Rattle.trial_plain.proofs.prefixes.answer.Goals as goal

pub answer-requires : goal.answer-requires
answer-requires g c = record { stands = (g.P.Objects.promise c.args.on.now, c.requires.stands) }
