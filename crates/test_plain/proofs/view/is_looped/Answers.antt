use Rattle.std.proofs.Common.{◌∙◌, sym}
use Rattle.test_plain.proofs.Viewing.{looped_there, looped_nowhere}
use Rattle.test_plain.proofs.view.is_looped.Goals as goal

pub returns-in-Some : goal.returns-in-Some
returns-in-Some c =
    looped_there c.args.view.now c.args.e c.row.result.now c.args.place c.in-Some.x c.row.ensures (sym c.facts_at.ensures ∙ c.in-Some.is)

pub returns-in-None : goal.returns-in-None
returns-in-None c = sym (looped_nowhere c.args.view.now c.args.e c.row.result.now c.args.place c.row.ensures (sym c.facts_at.ensures ∙ c.in-None.is))
