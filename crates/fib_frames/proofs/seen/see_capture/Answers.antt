use Rattle.fib_frames.proofs.Showing.{inside_of}
use Rattle.fib_frames.proofs.seen.see_capture.Goals as goal

pub returns-clause-inside : goal.returns-clause-inside
returns-clause-inside g c = inside_of c.see_bytes.result _ c.see_bytes.ensures.bytes c.see_bytes.ensures.spans
