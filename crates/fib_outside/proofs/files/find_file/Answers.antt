use Rattle.std.proofs.Common.{◌∙◌, sym, refl}
use Rattle.std.proofs.lemmas.Option.{slice_get_read}
use Rattle.fib_outside.proofs.Finding.{found_at}
use Rattle.fib_outside.proofs.files.find_file.Goals as goal

pub returns-then-eq-clause-found : goal.returns-then-eq-clause-found
returns-then-eq-clause-found c =
    let at = slice_get_read c.args.files.now _ c.loop-place.place c.index-files-place.result refl c.loop-place-test.true c.index-files-place.is in
    sym c.loop-place.invariant ∙ found_at c.args.files.now c.loop-place.place c.args.name.now c.index-files-place.result at (cc)
