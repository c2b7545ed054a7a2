use Rattle.std.proofs.Common.{◌%◌, ◌∙◌, sym, ap, List}
use Rattle.std.specs.Prelude.{slice_get}
use Rattle.fib_resolve.specs.declared.types.Path.{Path}
use Rattle.test_plain.proofs.Following.{steps_from, steps_nowhere}
use Rattle.test_plain.proofs.ways.step.Goals as goal

pub returns-in-Some : goal.returns-in-Some
returns-in-Some c =
    steps_from c.args.view.now c.args.e c.args.hash c.in-Some.p c.take.result
    (sym c.in-Some.is ∙ (c.at_place.ensures ∙ ap (λ (xs : List Path). slice_get xs (c.args.hash % 16)) (c.as_slice.ensures.value ∙ c.in_ok-paths.ensures)))
    c.take.ensures

pub returns : goal.returns
returns c =
    steps_nowhere c.args.view.now c.args.e c.args.hash
    (sym c.in-None.is ∙ (c.at_place.ensures ∙ ap (λ (xs : List Path). slice_get xs (c.args.hash % 16)) (c.as_slice.ensures.value ∙ c.in_ok-paths.ensures)))
