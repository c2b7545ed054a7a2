use Rattle.std.proofs.Common.{◌≡◌, ◌++◌, drop}
use Rattle.fib_frames.specs.Frames.{records_in}
use Rattle.fib_frames.proofs.frames.put_frames.Given as goal

-- what was appended, and then the records that are left
abbrev pub invariant-results : goal.invariant-results
invariant-results l = l.out.items ++ records_in l.bytes l.spans (drop l.kept-index l.results) ≡ l.fn.out.items ++ records_in l.bytes l.spans l.results
