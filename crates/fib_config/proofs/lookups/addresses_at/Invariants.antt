use Rattle.std.proofs.Common.{◌≡◌, ◌++◌, drop}
use Rattle.std.specs.Prelude.{filter}
use Rattle.fib_resolve_changes.specs.Affected.{is_own}
use Rattle.fib_config.proofs.lookups.addresses_at.Given as goal

abbrev pub invariant-loop-a : goal.invariant-loop-a
invariant-loop-a l = l.out.items ++ filter (λ a. is_own a l.prefix) (drop l.a-index l.addresses) ≡ filter (λ a. is_own a l.prefix) l.addresses
