-- The test for looped paths decides whether there is a walk back.
use Rattle.std.proofs.Common.{ℕ, Decides}
use Rattle.fib_reach.proofs.Through.{same_or_through-Decides}
use Rattle.fib_addr.specs.Prefixes.{Prefix, same_prefix, host}
use Rattle.fib_addr.proofs.PrefixLaws.{same_prefix-Decides}
use Rattle.fib_resolve.specs.Pairs.{entries}
use Rattle.fib_resolve.specs.Loops.{targets, Looped, looped}
use Rattle.fib_resolve.specs.declared.types.Tables.{Tables}
use Rattle.fib_resolve.proofs.Entries.{targets_from_entries}

pub looped-Decides : (S : Tables) (e : Prefix) (a : ℕ) → Decides (looped S e a) (Looped S e a)
unfolding looped
looped-Decides S e a = same_or_through-Decides same_prefix same_prefix-Decides (targets S) (entries S) (targets_from_entries S) (host a) e
