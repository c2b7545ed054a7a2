use Rattle.std.proofs.Common.{◌≡◌, fold, drop}
use Rattle.fib_capture.specs.FlowHash.{fnv_step}
use Rattle.fib_capture.proofs.flow.hash_on.Given as goal

abbrev pub invariant-loop-byte : goal.invariant-loop-byte
invariant-loop-byte l = fold fnv_step l.hash (drop l.byte-index l.bytes) ≡ fold fnv_step l.start l.bytes
