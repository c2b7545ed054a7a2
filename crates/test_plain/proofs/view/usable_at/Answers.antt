use Rattle.std.proofs.Common.{◌∙◌, sym, ap, map, List, Bool}
use Rattle.fib_resolve.specs.Pairs.{entries}
use Rattle.fib_resolve.specs.Forwarding.{forwards}
use Rattle.test_plain.specs.inner.Rows.{usable_now}
use Rattle.test_plain.proofs.Viewing.{usable_there, usable_nowhere}
use Rattle.test_plain.proofs.view.usable_at.Goals as goal

pub returns-in-Some : goal.returns-in-Some
returns-in-Some c =
    let S = c.args.view.now in
    let marks = c.view.invariant.marks_are ∙ ap (λ T. map (forwards T) (entries T)) c.view.view_is in
    c.usable_now.ensures ∙ (ap (λ (xs : List Bool). usable_now xs c.in-Some.x) c.as_slice.ensures.value
    ∙ usable_there S c.view.inside.marks.items c.args.e c.args.row.now c.args.place c.in-Some.x marks c.requires.row (sym c.facts_at.ensures ∙ c.in-Some.is))

pub returns-in-None : goal.returns-in-None
returns-in-None c = sym (usable_nowhere c.args.view.now c.args.e c.args.row.now c.args.place c.requires.row (sym c.facts_at.ensures ∙ c.in-None.is))
