use Rattle.std.proofs.Common.{map}
use Rattle.fib_follow_view.specs.Views.{anew_prefix}
use Rattle.fib_follow_told.specs.inner.Gathered.{AreEdgesFrom}
use Rattle.fib_follow_told.specs.inner.Lacking.{Comes, Goes}
use Rattle.fib_follow_told.proofs.edges.edges_of.Given as goal

abbrev pub invariant-changed : goal.invariant-changed
invariant-changed l =
    AreEdgesFrom (Comes l.view) (map anew_prefix l.changed) l.place l.come
    × AreEdgesFrom (Goes l.view) (map anew_prefix l.changed) l.place l.go
