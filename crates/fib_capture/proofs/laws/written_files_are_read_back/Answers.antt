use Rattle.fib_capture.proofs.WrittenFiles.{written_files_are_read_back}
use Rattle.fib_capture.proofs.laws.written_files_are_read_back.Goals as goal

pub returns : goal.returns
returns c = written_files_are_read_back
