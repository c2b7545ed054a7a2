use Rattle.std.proofs.Common.{map}
use Rattle.fib_entries_rows.proofs.Loopings.{SeesFirst}
use Rattle.fib_follow_view.specs.Views.{anew_prefix}
use Rattle.fib_follow_part.specs.inner.Searched.{SeesOnly}
use Rattle.fib_follow_part.proofs.seen.see_changed.Given as goal

abbrev pub invariant-changed : goal.invariant-changed
invariant-changed l = SeesFirst (map anew_prefix l.changed) l.place l.fn.seen l.seen × SeesOnly (map anew_prefix l.changed) l.fn.seen l.seen
