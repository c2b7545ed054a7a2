use Rattle.std.proofs.lemmas.Option.{IfSome_then}
use Rattle.trial_plain.proofs.Seating.{hopped_held, kept_passed}
use Rattle.trial_plain.proofs.held.hop.Goals as goal

pub hop-requires : goal.hop-requires
hop-requires c = c.requires.come

pub returns-clause-held : goal.returns-clause-held
returns-clause-held c = λ n h. hopped_held n c.args.control.now c.hop.new.self c.hop.result _ c.hop.ensures.pass c.hop.ensures.on
    (IfSome_then c.hop.result c.hop.ensures.ended (λ e ended. ended.0)) h

pub returns-clause-kept : goal.returns-clause-kept
returns-clause-kept c = kept_passed c.args.control.now c.hop.new.self _ c.hop.ensures.pass
