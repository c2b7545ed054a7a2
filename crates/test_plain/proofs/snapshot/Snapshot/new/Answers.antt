use Rattle.std.proofs.Common.{◌∙◌, sym, ap, map}
use Rattle.fib_resolve.specs.Pairs.{entries}
use Rattle.fib_resolve.specs.Forwarding.{forwards}
use Rattle.test_plain.proofs.snapshot.Snapshot.new.Goals as goal

pub invariant_of-result : goal.invariant_of-result
invariant_of-result c =
    let is = sym c.in_ok-meaning.ensures in
    record {
      rows_are = c.in_ok-rows.ensures;
      marks_are = c.in_ok-marks.ensures ∙ ap (λ T. map (forwards T) (entries T)) is;
    }
