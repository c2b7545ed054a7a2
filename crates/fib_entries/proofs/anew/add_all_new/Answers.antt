use Rattle.std.proofs.Common.{map}
use Rattle.fib_entries_rows.specs.Known.{prefix_of}
use Rattle.fib_entries_rows.specs.inner.Compare.{is_new, moved_new}
use Rattle.fib_entries.proofs.Moving.{more_moved}
use Rattle.fib_entries_rows.proofs.Touches.{more_after}
use Rattle.fib_entries.proofs.anew.add_all_new.Goals as goal

pub loop-place-preserved : goal.loop-place-preserved
loop-place-preserved c = (
  λ S T h k. more_after (is_new c.args.before.now.rows S T) (map prefix_of c.args.after.now.rows) c.args.out.now.touched c.loop-place.out.touched c.add_new.new.out.touched c.loop-place.place c.row_at.result.now.prefix c.row_at.ensures.named (c.loop-place.invariant.0 S T h k) (c.in_ok-add_new.ensures.touched S T h k),
  more_moved (moved_new c.args.before.now.rows c.args.after.now.rows) (map prefix_of c.args.after.now.rows) c.args.out.now.moved c.loop-place.out.moved c.add_new.new.out.moved c.loop-place.place c.row_at.result.now.prefix c.row_at.ensures.named c.loop-place.invariant.1 c.in_ok-add_new.ensures.moved,
)
