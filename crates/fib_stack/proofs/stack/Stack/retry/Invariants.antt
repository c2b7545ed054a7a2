use Rattle.std.proofs.Common.{◌≡◌, ◌-◌, ◌<◌, ◌≤◌, ℕ, length, get_or}
use Rattle.std.specs.Prelude.{Option}
use Rattle.fib_addr.specs.Prefixes.{Prefix}
use Rattle.fib_resolve.specs.declared.types.Tables.{Tables}
use Rattle.fib_stack_ledger.specs.declared.late.Late.{Late}
use Rattle.fib_plane_view.specs.Frames.{IsQuiet}
use Rattle.fib_stack.specs.Done.{StaysLate}
use Rattle.fib_stack.specs.Joined.{Joined, state_in}
use Rattle.fib_stack.specs.Steps.{Retried}
use Rattle.fib_stack.specs.Moments.{parts_of}
use Rattle.fib_stack.proofs.stack.Stack.retry.Given as goal

abbrev pub invariant-loop-place : goal.invariant-loop-place
invariant-loop-place g l = record {
  joined : (S : Tables) (rank : Prefix → ℕ) → Joined S rank (g.P.Objects.promise l.initial.on) (g.P.Objects.view l.initial.on) (parts_of l.table l.initial.self l.queue) → Joined S rank (g.P.Objects.promise l.on) (g.P.Objects.view l.on) (parts_of l.table l.self l.queue);
  retried : (S : Tables) (rank : Prefix → ℕ) → Joined S rank (g.P.Objects.promise l.initial.on) (g.P.Objects.view l.initial.on) (parts_of l.table l.initial.self l.queue) → Retried (state_in (g.P.Objects.view l.initial.on) (parts_of l.table l.initial.self l.queue)) (state_in (g.P.Objects.view l.on) (parts_of l.table l.self l.queue));
  why : (i : ℕ) (d : Late) → i < l.place → get_or l.self.late.members i d ≡ d → StaysLate (g.P.Objects.view l.on) (parts_of l.table l.self l.queue) d.entry d.word;
  retired : (g.P.Objects.view l.on).retired ≡ (g.P.Objects.view l.initial.on).retired;
  quiet : (look : Prefix → Option ℕ) → IsQuiet look (g.P.Objects.view l.initial.on) (g.P.Objects.view l.on);
  free : (g.P.Objects.view l.initial.on).free ≤ (g.P.Objects.view l.on).free;
  stored : (g.P.Objects.view l.initial.on).stored ≤ (g.P.Objects.view l.on).stored;
  promise : g.P.Objects.promise l.on ≡ g.P.Objects.promise l.initial.on;
}

abbrev pub decreases-loop-place : goal.decreases-loop-place
decreases-loop-place g l = length l.self.late.members - l.place
