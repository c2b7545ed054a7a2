use Rattle.std.proofs.Common.{◌≡◌, ◌&&◌, false, take}
use Rattle.std.specs.List.{list_any}
use Rattle.std.specs.Set.{is_member}
use Rattle.fib_addr.specs.Prefixes.{same_prefix}
use Rattle.fib_resolve.specs.Pairs.{chosen}
use Rattle.fib_resolve.specs.Loops.{kind_targets, is_kept}
use Rattle.fib_entries_rows.proofs.parts.keeps.Given as goal

abbrev pub invariant-loop-place : goal.invariant-loop-place
invariant-loop-place l = (l.paths ≡ chosen l.meaning l.e) × (list_any (λ p. is_kept l.meaning l.e p.kind && is_member same_prefix (kind_targets l.meaning l.e p.kind) l.t) (take l.place l.paths) ≡ false)
