use Rattle.std.proofs.Common.{◌≡◌}
use Rattle.std.specs.List.{list_any}
use Rattle.fib_follow_pairs.specs.inner.Parts.{is_way}
use Rattle.fib_follow_looked.proofs.named.has_way.Given as goal

abbrev pub invariant-among : goal.invariant-among
invariant-among l = list_any (is_way l.after.tables l.addr) l.prefix-iterator ≡ list_any (is_way l.after.tables l.addr) l.among
