use Rattle.std.proofs.Common.{◌≡◌}
use Rattle.std.specs.Prelude.{vec_len}
use Rattle.test_frames.proofs.taps.flows.Given as goal

-- a packet for each number so far
abbrev pub invariant-loop-k : goal.invariant-loop-k
invariant-loop-k l = vec_len l.packets ≡ l.k
