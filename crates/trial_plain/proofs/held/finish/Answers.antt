use Rattle.trial_plain.proofs.Seating.{ended_rested, kept_passed}
use Rattle.trial_plain.proofs.held.finish.Goals as goal

pub end-requires : goal.end-requires
end-requires c = (c.args.end, c.requires.come)

pub returns-clause-rested : goal.returns-clause-rested
returns-clause-rested c = λ n h. ended_rested n c.args.control.now c.end.new.self c.args.end c.end.ensures.pass h

pub returns-clause-kept : goal.returns-clause-kept
returns-clause-kept c = kept_passed c.args.control.now c.end.new.self _ c.end.ensures.pass
