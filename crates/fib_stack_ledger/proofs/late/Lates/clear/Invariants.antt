use Rattle.std.proofs.Common.{◌≡◌, ℕ, ◌-◌, ◌≤◌, length, take}
use Rattle.fib_addr.specs.Prefixes.{Prefix}
use Rattle.fib_stack_ledger.specs.Deferred.{late_at}
use Rattle.fib_stack_ledger.proofs.LateLists.{AreOthers}
use Rattle.fib_stack_ledger.proofs.late.Lates.clear.Given as goal

abbrev pub invariant-loop-place : goal.invariant-loop-place
invariant-loop-place l = record {
  before : AreOthers l.entry (take l.place l.self.members);
  others : (e : Prefix) (k : ℕ) → (e ≡ l.entry → ⊥) → late_at l.self.members e k ≡ late_at l.initial.self.members e k;
  spare : l.initial.self.spare ≤ l.self.spare;
}

abbrev pub decreases-loop-place : goal.decreases-loop-place
decreases-loop-place l = length l.self.members - l.place
