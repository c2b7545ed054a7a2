use Rattle.std.proofs.Common.{sym}
use Rattle.fib_capture.proofs.Reading.{all_of_file}
use Rattle.fib_capture.proofs.capture.Capture.read.Goals as goal

pub returns : goal.returns
returns c = all_of_file _ _ _ _ (sym c.in_ok-order.ensures.value) c.in_ok-read_records.ensures
