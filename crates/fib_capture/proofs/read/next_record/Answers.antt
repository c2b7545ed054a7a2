use Rattle.std.proofs.Common.{arith, refl}
use Rattle.fib_capture.proofs.Records.{whole_record}
use Rattle.fib_capture.proofs.read.next_record.Goals as goal

pub returns-clause-value : goal.returns-clause-value
returns-clause-value c = whole_record _ _ _ _ _ _ (omega arith) c.number_at-captured.ensures refl (omega arith) c.split_at.ensures.front c.split_at.ensures.back
