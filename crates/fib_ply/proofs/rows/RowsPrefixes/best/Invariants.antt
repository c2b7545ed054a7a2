use Rattle.std.specs.Prelude.{◌≡◌, ◌<◌, ◌≤◌, ◌^◌}
use Rattle.fib_core_promise.specs.Matches.{best_block, look_of}
use Rattle.fib_ply.specs.Rows.{held}
use Rattle.fib_ply.proofs.rows.RowsPrefixes.best.Given as goal

abbrev pub invariant-loop-n : goal.invariant-loop-n
invariant-loop-n l = (l.n ≤ 32) × (l.block < 2 ^ l.n) × (best_block (look_of (held l.fn.self.members)) l.fn.len l.fn.top ≡ best_block (look_of (held l.fn.self.members)) l.n l.block)

abbrev pub decreases-loop-n : goal.decreases-loop-n
decreases-loop-n l = l.n
