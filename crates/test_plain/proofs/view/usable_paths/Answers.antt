use Rattle.std.proofs.Common.{◌∙◌, sym, ap, List, Some}
use Rattle.std.specs.Prelude.{slice_get}
use Rattle.std.proofs.lemmas.Option.{slice_get-get_or}
use Rattle.fib_resolve.specs.Pairs.{chosen}
use Rattle.fib_resolve.specs.declared.types.Path.{Path}
use Rattle.test_plain.proofs.view.usable_paths.Goals as goal

pub usable_path-requires-clause-there : goal.usable_path-requires-clause-there
usable_path-requires-clause-there c =
    let xs = c.chosen-p-items.result.now in
    ap (λ (ps : List Path). slice_get ps c.loop-i.i) (ap (λ S. chosen S c.args.e) (sym c.known.ensures) ∙ sym c.chosen-p-items.ensures)
    ∙ (slice_get-get_or xs c.loop-i.i c.p-item.result c.loop-i-test.true ∙ ap (λ (p : Path). Some p) (sym c.p-item.is))
