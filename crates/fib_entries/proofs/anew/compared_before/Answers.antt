use Rattle.std.proofs.Common.{map, []}
use Rattle.fib_resolve.specs.Touched.{is_touched}
use Rattle.fib_entries_rows.specs.Known.{prefix_of}
use Rattle.fib_entries_rows.specs.inner.Compare.{moved_one}
use Rattle.fib_entries.proofs.Moving.{more_moved}
use Rattle.fib_entries_rows.proofs.Touches.{more_before}
use Rattle.fib_entries.proofs.anew.compared_before.Goals as goal

pub loop-place-preserved : goal.loop-place-preserved
loop-place-preserved c = (
  λ S T h k. more_before (is_touched S T) (map prefix_of c.args.before.now.rows) c.loop-place.out.touched c.add_old.new.out.touched c.loop-place.place c.row_at.result.now.prefix c.row_at.ensures.named (c.loop-place.invariant.0 S T h k) (c.in_ok-add_old.ensures.touched S T h k),
  more_moved (moved_one c.args.before.now.rows c.args.after.now.rows) (map prefix_of c.args.before.now.rows) [] c.loop-place.out.moved c.add_old.new.out.moved c.loop-place.place c.row_at.result.now.prefix c.row_at.ensures.named c.loop-place.invariant.1 c.in_ok-add_old.ensures.moved,
)
