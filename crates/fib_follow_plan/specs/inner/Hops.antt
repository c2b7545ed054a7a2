-- Hosts of next hops that are found one after the other. No contract of a public call rests on this.
use Rattle.std.specs.Prelude.{◌≡◌, ◌⊎◌, List, Contains, map}
use Rattle.fib_addr.specs.Prefixes.{Prefix}
use Rattle.fib_resolve.specs.declared.types.Tables.{Tables}
use Rattle.fib_resolve_changes.specs.Sources.{all_hops}
use Rattle.fib_resolve_changes.specs.declared.change.Change.{Change}
use Rattle.fib_entries_rows.specs.Known.{Known, prefix_of}
use Rattle.fib_follow_features.specs.FoundBy.{AreNoted}
use Rattle.fib_follow_features.specs.Holders.{Holders}
use Rattle.fib_follow_looked.specs.Looks.{AreNamed, IsBefore}
use Rattle.fib_follow_looked.specs.declared.named.Named.{Named}

-- the features are those of entries before changes, which name that
pub record IsGiven (T : Tables) (x : Named) (sets : List Holders) : Type 0 where
  pub known : Known
  pub changes : List Change
  pub tables : Tables
  pub is_before : IsBefore known changes tables T
  pub noted : AreNoted known.lists (map prefix_of known.rows) known.rows sets
  pub named : AreNamed changes tables T x

-- the prefix comes where it is the host of a next hop, and else none
pub record AddsHop (T : Tables) (e : Prefix) (old new : List Prefix) : Type 0 where
  pub stays : (q : Prefix) → Contains old q → Contains new q
  pub real : (q : Prefix) → Contains new q → Contains old q ⊎ Contains (all_hops T) q.bits
  pub found : e.len ≡ 32 → Contains (all_hops T) e.bits → Contains new e

-- the hosts of next hops among these
pub record AreHopsAmong (T : Tables) (list hops : List Prefix) : Type 0 where
  pub real : (q : Prefix) → Contains hops q → Contains (all_hops T) q.bits
  pub found : (q : Prefix) → Contains list q → q.len ≡ 32 → Contains (all_hops T) q.bits → Contains hops q
