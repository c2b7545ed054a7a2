use Rattle.std.proofs.Common.{◌≤◌, take}
use Rattle.fib_rounds_taps.specs.Taps.{Takes}
use Rattle.fib_rounds_taps.proofs.all.take_all.Given as goal

abbrev pub invariant-results : goal.invariant-results
invariant-results g l = record {
  taken : Takes (g.T.Tap.taken l.fn.tap) (g.T.Tap.taken l.tap) (take l.kept-index l.results);
  counted : g.T.Tap.faults l.fn.tap ≤ g.T.Tap.faults l.tap;
}
