use Rattle.fib_frames.proofs.Back.{frame_files_are_read_back}
use Rattle.fib_frames.proofs.laws.frame_files_are_read_back.Goals as goal

pub returns : goal.returns
returns c = frame_files_are_read_back
