use Rattle.std.proofs.Common.{◌≡◌, take}
use Rattle.fib_urpf.proofs.queueing.queued_of.Given as goal

abbrev pub invariant-loop-place : goal.invariant-loop-place
invariant-loop-place l = l.listed.items ≡ take l.place l.queue.members
