use Rattle.std.proofs.Common.{◌≡◌, take}
use Rattle.fib_follow_told.specs.inner.Marks.{mark_by, marks_by}
use Rattle.fib_follow_told.proofs.body.marks_over.Given as goal

abbrev pub invariant-paths : goal.invariant-paths
invariant-paths l = l.out.items ≡ marks_by (mark_by l.config.tables l.view l.cover l.e) (take l.place l.paths) l.looped
