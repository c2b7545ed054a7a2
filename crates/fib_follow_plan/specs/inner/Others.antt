-- The entries that are found for a changed one, and for a change. No contract of a public call rests on this.
use Rattle.std.specs.Prelude.{◌==◌, List, [], if◌then◌else◌}
use Rattle.fib_addr.specs.Prefixes.{Prefix}
use Rattle.fib_resolve_changes.specs.declared.change.Change.{Change}
use Rattle.fib_resolve_changes.specs.declared.change.Change.TheVariants as changes
use Rattle.fib_follow_features.specs.Holders.{Holders, holders}
use Rattle.fib_follow_features.specs.declared.feature.Feature.TheVariants as features

-- those that need something of the host
abbrev pub needing : List Holders → Prefix → List Prefix
needing sets e = if e.len == 32 then holders sets (features.Needs e.bits) else []

-- those over the interface, or with the Hop end
abbrev pub over_or_at : List Holders → Change → List Prefix
over_or_at sets (changes.Flag i) = holders sets (features.Over i)
over_or_at sets (changes.Neighbor i a) = holders sets (features.End (record { interface = i; next_hop = a }))
over_or_at sets (changes.Address a) = []
over_or_at sets (changes.Route p s) = []
