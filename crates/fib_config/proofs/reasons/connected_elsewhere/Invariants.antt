use Rattle.std.proofs.Common.{◌≡◌, drop}
use Rattle.std.specs.List.{list_any}
use Rattle.fib_resolve.specs.Tables.{connects_elsewhere}
use Rattle.fib_config.proofs.reasons.connected_elsewhere.Given as goal

abbrev pub invariant-loop-b : goal.invariant-loop-b
invariant-loop-b l = list_any (connects_elsewhere l.a) (drop l.b-index l.tables.addresses) ≡ list_any (connects_elsewhere l.a) l.tables.addresses
