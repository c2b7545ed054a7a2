use Rattle.std.proofs.Common.{sym, ◌∙◌}
use Rattle.fib_follow_part.proofs.Searching.{steps_more, steps_none, steps_sees, steps_until}
use Rattle.fib_follow_part.proofs.seen.see_all.Goals as goal

pub steps-init : goal.steps-init
steps-init c = steps_none c.args.view.now c.args.seen.now c.requires.once

pub returns-in_default-clause-seen : goal.returns-in_default-clause-seen
returns-in_default-clause-seen c = steps_sees c.args.view.now c.steps.place c.args.seen.now c.steps.seen c.steps.invariant

pub returns-in_default-clause-closed : goal.returns-in_default-clause-closed
returns-in_default-clause-closed c = steps_until c.args.view.now c.steps.place c.args.seen.now c.steps.seen
    (sym c.at.ensures ∙ c.in_default.is) c.steps.invariant

pub steps-preserved : goal.steps-preserved
steps-preserved c =
    steps_more c.args.view.now c.args.seen.now c.steps.seen c.see_both.new.seen c.steps.place c.in-Some.e
    (sym c.at.ensures ∙ c.in-Some.is) c.steps.invariant c.in_ok-see_both.ensures.more c.in_ok-see_both.ensures.both
