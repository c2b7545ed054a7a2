use Rattle.fib_entries_rows.proofs.Loopings.{SeesFirst}
use Rattle.fib_follow_part.proofs.seen.see_each.Given as goal

abbrev pub invariant-list : goal.invariant-list
invariant-list l = SeesFirst l.list l.place l.fn.seen l.seen
