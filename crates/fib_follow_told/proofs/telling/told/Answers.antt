use Rattle.std.proofs.Common.{subst, sym}
use Rattle.fib_entries_rows.specs.Changes.{AreTouched}
use Rattle.fib_follow_part.specs.Parts.{in_part}
use Rattle.fib_follow_told.proofs.telling.told.Goals as goal

pub returns : goal.returns
returns c = λ S T list h is once holds are. record {
  touched = subst (AreTouched S T) (sym c.of.ensures) (c.in_ok-list.ensures S T (in_part c.args.part.now) list h once holds are);
  moved = c.in_ok-moved.ensures S T h is;
}
