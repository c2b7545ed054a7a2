use Rattle.trial_plain.proofs.Seating.{begun_held, kept_passed, rested_left}
use Rattle.trial_plain.proofs.held.begin.Goals as goal

pub begin-requires-clause-worker : goal.begin-requires-clause-worker
begin-requires-clause-worker c = c.requires.some

pub begin-requires-clause-rests : goal.begin-requires-clause-rests
begin-requires-clause-rests c = c.requires.rests

pub begin-requires-clause-left : goal.begin-requires-clause-left
begin-requires-clause-left c = rested_left _ c.requires

pub returns-clause-held : goal.returns-clause-held
returns-clause-held c = λ n r. begun_held n c.args.control.now c.begin.new.self c.args.addr c.args.hash c.begin.ensures.pass c.begin.ensures.on r

pub returns-clause-kept : goal.returns-clause-kept
returns-clause-kept c = kept_passed c.args.control.now c.begin.new.self _ c.begin.ensures.pass
