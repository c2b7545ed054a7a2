use Rattle.fib_rounds.proofs.Writing.{on_err}
use Rattle.fib_frames.proofs.Piecing.{whole_some}
use Rattle.fib_frames.proofs.run.send.Goals as goal

pub returns-clause-some_sent : goal.returns-clause-some_sent
returns-clause-some_sent g c = on_err c.write_expired.result (whole_some _ _ _ c.in_ok-write_frames.ensures.ok)
