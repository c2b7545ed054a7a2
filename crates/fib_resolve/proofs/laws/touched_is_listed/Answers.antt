use Rattle.fib_resolve.proofs.TouchedEntries.{touched_listed, touched_effective}
use Rattle.fib_resolve.proofs.laws.touched_is_listed.Goals as goal

pub returns : goal.returns
returns c = record { listed = touched_listed; effective = touched_effective }
