use Rattle.std.proofs.Common.{◌≡◌, ◌++◌, drop}
use Rattle.fib_frames.specs.Frames.{expired_text}
use Rattle.fib_frames.proofs.expired.put_expired.Given as goal

-- what was appended, and then the lines that are left
abbrev pub invariant-results : goal.invariant-results
invariant-results l = l.out.items ++ expired_text l.bytes l.spans (drop l.kept-index l.results) ≡ l.fn.out.items ++ expired_text l.bytes l.spans l.results
