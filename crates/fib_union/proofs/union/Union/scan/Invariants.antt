use Rattle.std.proofs.Common.{◌≡◌, ◌≤◌, ◌-◌, ◌++◌, length, drop}
use Rattle.fib_union.specs.Unions.{scan_from, gone_from}
use Rattle.fib_union.proofs.union.Union.scan.Given as goal

abbrev pub invariant-loop-worker : goal.invariant-loop-worker
invariant-loop-worker l = record {
  scanned : scan_from l.worker (drop l.worker l.words) l.self.union ≡ scan_from 0 l.words l.fn.self.union;
  edges : l.self.union.edges ≡ l.fn.self.union.edges;
  left : l.self.left ++ gone_from l.worker (drop l.worker l.words) l.self.union ≡ l.fn.self.left ++ gone_from 0 l.words l.fn.self.union;
  workers : l.self.workers ≡ l.fn.self.workers;
  spare : l.fn.self.spare ≤ l.self.spare;
}

abbrev pub decreases-loop-worker : goal.decreases-loop-worker
decreases-loop-worker l = length l.words - l.worker
