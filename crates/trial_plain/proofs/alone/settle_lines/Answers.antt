use Rattle.std.proofs.Common.{◌∙◌}
use Rattle.trial_plain.proofs.Seating.{home_by}
use Rattle.trial_plain.proofs.alone.settle_lines.Goals as goal

pub settle_alone-requires : goal.settle_alone-requires
settle_alone-requires c = home_by _ (c.settle-before.ensures.seats ∙ c.in_ok-base.ensures ∙ c.requires)
