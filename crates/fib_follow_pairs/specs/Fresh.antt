-- The pairs of one prefix, and what is known of a host beside its own base pairs.
use Rattle.std.specs.Prelude.{◌≡◌, ◌↔◌, ◌<◌, ℕ, true, false, IsTrue, List, [], ◌∷◌, Contains, Option, Some, None}
use Rattle.std.specs.List.{AllByRecursion}
use Rattle.fib_addr.specs.Prefixes.{Prefix}
use Rattle.fib_resolve.specs.Keys.{source_rank}
use Rattle.fib_resolve.specs.Pairs.{attached_by, cover, pairs, recursive_hops}
use Rattle.fib_resolve.specs.declared.pairs.Pair.{Pair}
use Rattle.fib_resolve.specs.declared.types.Route.{Route}
use Rattle.fib_resolve.specs.declared.types.Tables.{Tables}
use Rattle.fib_resolve_changes.specs.Sources.{all_hops}
use Rattle.fib_resolve_changes.specs.Ranks.{has_entry}
use Rattle.fib_follow_view.specs.Views.{AreBetterFirst}
use Rattle.fib_follow_pairs.specs.declared.host.Host.{Host}
use Rattle.fib_follow_pairs.specs.declared.fresh.Fresh.{Fresh}
use Rattle.fib_follow_pairs.specs.declared.fresh.Fresh.TheVariants as made
use Rattle.fib_follow_pairs.specs.declared.fresh.FreshEntry.{FreshEntry}

-- the prefix's pairs among all these: exactly they, one a source, the best first
pub record ArePairsAt (all : List Pair) (e : Prefix) (xs : List Pair) : Type 0 where
  pub by_rank : AreBetterFirst xs
  pub are : (x : Pair) → Contains xs x ↔ Contains all x × (e ≡ x.prefix)

-- what tables say of an address beside its own base pairs: its cover, how that attaches it, and whether it is a next hop
pub record IsHost (S : Tables) (a : ℕ) (h : Host) : Type 0 where
  pub cover : h.cover ≡ cover S a
  pub attached : h.attached ≡ attached_by S a
  pub hop : IsTrue h.is_hop ↔ Contains (all_hops S) a

-- the prefixes of all routes that have the address as next hop are among these
abbrev pub HoldsWays : Tables → ℕ → List Prefix → Type 0
HoldsWays S a among = (r : Route) → Contains S.routes r → Contains (recursive_hops r) a → Contains among r.prefix

-- what is known of a host is given, and of a shorter prefix nothing need be
abbrev pub IsAround : Tables → Prefix → Option Host → Type 0
IsAround S e None = e.len < 32
IsAround S e (Some h) = (e.len ≡ 32) × IsHost S e.bits h

-- a host's cover; a shorter prefix's doesn't count
abbrev pub IsCover : Tables → Prefix → Option Prefix → Type 0
IsCover S e None = e.len < 32
IsCover S e (Some c) = (e.len ≡ 32) × (c ≡ cover S e.bits)

-- the prefix is an entry, with these pairs and that cover
pub record IsEntry (S : Tables) (f : FreshEntry) : Type 0 where
  pub effective : has_entry S f.prefix ≡ true
  pub pairs : ArePairsAt (pairs S) f.prefix f.pairs
  pub cover : IsCover S f.prefix f.cover

-- the tables have the prefix so: as an entry, or as none
abbrev pub IsFresh : Tables → Fresh → Type 0
IsFresh S (made.Entry f) = IsEntry S f
IsFresh S (made.Gone e) = has_entry S e ≡ false

abbrev pub prefix_in : Fresh → Prefix
prefix_in (made.Entry f) = f.prefix
prefix_in (made.Gone e) = e
