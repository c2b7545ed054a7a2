-- The hosts that are found for an ask. No contract of a public call rests on this.
use Rattle.std.specs.Prelude.{◌≤◌, List, Contains, filter}
use Rattle.fib_addr.specs.Prefixes.{Prefix}
use Rattle.fib_cover.specs.Covers.{is_inside}
use Rattle.fib_follow_features.specs.Holders.{Holders, holders}
use Rattle.fib_follow_features.specs.declared.feature.Feature.TheVariants as features
use Rattle.fib_follow_looked.specs.declared.ask.Ask.{Ask}
use Rattle.fib_follow_looked.specs.declared.ask.Ask.TheVariants as asked

abbrev pub hosts_of : List Holders → Ask → List Prefix
hosts_of sets (asked.Under q) = holders sets (features.Under q)
hosts_of sets (asked.Inside c q) = filter (is_inside q) (holders sets (features.Under c))

-- the prefix in which hosts are asked for has a length of at most 32
abbrev pub IsShortAsk : Ask → Type 0
IsShortAsk (asked.Under q) = Unit {0}
IsShortAsk (asked.Inside c q) = q.len ≤ 32

-- those that are found for each ask are among these
abbrev pub AreHostsOf : List Holders → List Ask → List Prefix → Type 0
AreHostsOf sets asks hosts = (x : Ask) → Contains asks x → IsShortAsk x × ((e : Prefix) → Contains (hosts_of sets x) e → Contains hosts e)
