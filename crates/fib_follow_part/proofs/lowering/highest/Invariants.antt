use Rattle.std.proofs.Common.{◌≡◌, ◌<◌, ◌≤◌, ℕ, Some, slice_get}
use Rattle.fib_addr.specs.Prefixes.{Prefix}
use Rattle.fib_entries_rows.specs.Known.{rank_of}
use Rattle.fib_follow_part.proofs.lowering.highest.Given as goal

abbrev pub invariant-edges : goal.invariant-edges
invariant-edges l = (i : ℕ) (d : ℕ × Prefix) → i < l.place → slice_get l.edges i ≡ Some d → rank_of l.view.before.rows d.1 ≤ l.found
