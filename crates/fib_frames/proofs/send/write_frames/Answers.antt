use Rattle.fib_rounds.proofs.Running.{some_of_first}
use Rattle.fib_rounds.proofs.Writing.{on_err}
use Rattle.fib_frames.specs.Frames.{file_header, records_in}
use Rattle.fib_frames.proofs.Piecing.{second_cut}
use Rattle.fib_frames.proofs.send.write_frames.Goals as goal

pub returns-in_err-write_header-clause-err : goal.returns-in_err-write_header-clause-err
returns-in_err-write_header-clause-err g c =
    on_err c.from_residual.result (some_of_first _ _ file_header (records_in c.args.seen.now.bytes.items c.args.seen.now.spans c.args.results.now) c.in_err-write_header.ensures.err)

pub returns-clause-err : goal.returns-clause-err
returns-clause-err g c =
    second_cut c.write_records.result _ _ _ file_header (records_in c.args.seen.now.bytes.items c.args.seen.now.spans c.args.results.now) c.in_ok-write_header.ensures.ok c.write_records.ensures.err
