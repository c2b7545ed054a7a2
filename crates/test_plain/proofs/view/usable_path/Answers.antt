use Rattle.std.proofs.Common.{◌∙◌}
use Rattle.test_plain.proofs.Viewing.{usable_here}
use Rattle.test_plain.proofs.view.usable_path.Goals as goal

pub returns : goal.returns
returns c = c.usable_at.ensures ∙ usable_here c.args.view.now c.args.e c.args.place c.args.p.now c.requires.there
