use Rattle.std.proofs.Common.{◌≡◌}
use Rattle.fib_core.specs.Walk.{after, root}
use Rattle.fib_core.specs.Stages.{StandsAt}
use Rattle.fib_control.proofs.looking.look_up.Given as goal

abbrev pub invariant-loop-hop : goal.invariant-loop-hop
invariant-loop-hop g l = StandsAt l.hash (after l.plane.plane.board.union.cells l.addr l.hash l._hop root) l.stage
