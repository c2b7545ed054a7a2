use Rattle.std.proofs.Common.{◌∙◌, subst, sym}
use Rattle.fib_entries_rows.specs.Changes.{AreTouched}
use Rattle.fib_follow_told.proofs.Touching.{touched_list}
use Rattle.fib_follow_told.proofs.telling.touched.Goals as goal

pub returns : goal.returns
returns c = λ S T part list h once holds are.
    subst (AreTouched S T) (sym (c.from_vec.ensures ∙ c.in_ok-found.ensures))
    (touched_list c.args.view.now S T part list c.args.bodies.now h once holds are)
