use Rattle.std.proofs.Common.{◌≡◌, ◌≤◌, ◌+◌, ◌<◌, ℕ}
use Rattle.std.specs.Prelude.{None}
use Rattle.fib_addr.specs.Prefixes.{Prefix}
use Rattle.fib_stack_ledger.specs.Deferred.{late_at, late_count}
use Rattle.fib_stack.specs.Runs.{deferred_at}
use Rattle.fib_stack.proofs.defer.defer.Given as goal

abbrev pub invariant-loop-slot : goal.invariant-loop-slot
invariant-loop-slot l = record {
  done : (k : ℕ) → k < l.slot → late_at l.late.members l.entry k ≡ deferred_at l.words l.answers k;
  clear : (k : ℕ) → l.slot ≤ k → late_at l.late.members l.entry k ≡ None;
  others : (e : Prefix) (k : ℕ) → (e ≡ l.entry → ⊥) → late_at l.late.members e k ≡ late_at l.initial.late.members e k;
  spare : 16 ≤ l.late.spare + l.slot;
  count : l.deferred ≡ late_count (late_at l.late.members l.entry) l.slot;
  few : l.deferred ≤ l.slot;
}
