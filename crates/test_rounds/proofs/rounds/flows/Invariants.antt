use Rattle.std.proofs.Common.{◌≡◌, length, vec_len}
use Rattle.test_rounds.proofs.rounds.flows.Given as goal

abbrev pub invariant-loop-hash : goal.invariant-loop-hash
invariant-loop-hash l = record {
  items : length l.packets.items ≡ l.hash;
  long : vec_len l.packets ≡ l.hash;
}
