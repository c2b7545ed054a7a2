use Rattle.std.proofs.Common.{Bool, ◌-◌, ◌≡◌, ◌≤◌, ℕ}
use Rattle.fib_plane_view.specs.Frames.{Beside}
use Rattle.fib_ply.specs.Calls.{DropsNone}
use Rattle.fib_ply.specs.Prefixes.{Look}
use Rattle.fib_ply.specs.Served.{Paths, Watch}
use Rattle.fib_ply.specs.Plies.{IsAt}
use Rattle.fib_ply.specs.inner.Change.{IsSpent}
use Rattle.fib_ply.proofs.pushing.refresh.Given as goal

abbrev pub invariant-loop-pos : goal.invariant-loop-pos
invariant-loop-pos g l = record {
  change : ((wants : Watch) (there : ℕ → ℕ → Bool) (old : Look) (n : Paths) → IsAt wants there old (g.S.Prefixes.look l.set) l.initial.pos n (g.P.Objects.view l.initial.on)
      → IsAt wants there old (g.S.Prefixes.look l.set) l.pos n (g.P.Objects.view l.on) × IsSpent n (g.P.Objects.view l.initial.on) (g.P.Objects.view l.on) l.initial.pos l.pos);
  free : (g.P.Objects.view l.initial.on).free ≤ (g.P.Objects.view l.on).free;
  promise : g.P.Objects.promise l.on ≡ g.P.Objects.promise l.initial.on;
  beside : Beside (g.P.Objects.view l.initial.on) (g.P.Objects.view l.on);
  none_dropped : DropsNone (g.P.Objects.view l.initial.on) (g.P.Objects.view l.on);
}

abbrev pub decreases-loop-pos : goal.decreases-loop-pos
decreases-loop-pos g l = l.to - l.pos
