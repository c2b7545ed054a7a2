-- What is true of an address that isn't looked at as tables change, though its cover may be another.
use Rattle.std.specs.Prelude.{◌≡◌, ◌≢◌, ◌⊎◌, ◌↔◌, ◌<◌, ◌≤◌, ◌^◌, ℕ, Bool, true, false, List, Contains, Option, Some}
use Rattle.fib_addr.specs.Prefixes.{Prefix, host, contains}
use Rattle.fib_resolve.specs.Pairs.{base_pairs, short_prefixes, cover, attached_by, attached_of, best_pair, paths_of}
use Rattle.fib_resolve.specs.declared.pairs.Pair.{Pair}
use Rattle.fib_resolve.specs.declared.types.Tables.{Tables}
use Rattle.fib_resolve_changes.specs.Named.{own_in, hop_in, near_in}
use Rattle.fib_resolve_changes.specs.Sources.{HasNeighbor, SameEntry, all_hops}
use Rattle.fib_resolve_changes.specs.declared.change.Change.{Change}

-- the interface to which the prefix's own base pairs attach
abbrev pub attached_at : Tables → Prefix → Option ℕ
attached_at S q = attached_of (paths_of (best_pair q (base_pairs S)))

-- a pair of the host depends on its cover: it is a next hop, or a neighbor where it is attached
abbrev pub IsHosted : Tables → ℕ → Type 0
IsHosted S a = Contains (all_hops S) a ⊎ ((i : ℕ) × HasNeighbor S i a × (attached_by S a ≡ Some i))

-- c is the longest of the prefixes that can cover which contain q and are shorter
pub record IsAbove (S : Tables) (q c : Prefix) : Type 0 where
  pub member : Contains (short_prefixes S) c
  pub shorter : c.len < q.len
  pub holds : contains c q.bits ≡ true
  pub longest : (r : Prefix) → Contains (short_prefixes S) r → r.len < q.len → contains r q.bits ≡ true → r.len ≤ c.len

-- the address is no late one; where a pair of it depends on its cover, that stays, attaches as before, and isn't that of a prefix that
-- comes over the address; and it is no neighbor on the interface to which a prefix over it attaches since the change, or that above one
-- that goes
pub record IsPassed (S T : Tables) (a : ℕ) : Type 0 where
  pub base : (x : Pair) → host a ≡ x.prefix → Contains (base_pairs S) x ↔ Contains (base_pairs T) x
  pub hops : Contains (all_hops S) a ↔ Contains (all_hops T) a
  pub near : (i : ℕ) → HasNeighbor S i a ↔ HasNeighbor T i a
  pub stays : IsHosted S a → Contains (short_prefixes T) (cover S a) × (attached_at S (cover S a) ≡ attached_at T (cover S a))
  pub between : (q c : Prefix) → IsHosted S a → Contains (short_prefixes T) q → (Contains (short_prefixes S) q → ⊥) → contains q a ≡ true
      → IsAbove S q c → cover S a ≢ c
  pub came : (q : Prefix) (i : ℕ) → Contains (short_prefixes T) q → (Contains (short_prefixes S) q → attached_at S q ≢ attached_at T q)
      → contains q a ≡ true → attached_at T q ≡ Some i → HasNeighbor T i a → ⊥
  pub went : (q c : Prefix) (i : ℕ) → Contains (short_prefixes S) q → (Contains (short_prefixes T) q → ⊥) → contains q a ≡ true
      → IsAbove T q c → attached_at T c ≡ Some i → HasNeighbor T i a → ⊥

-- what is looked at as tables change: what the changes name, and each address of which the rules for covers speak; and the test `changed`
-- holds of each prefix that is looked at and whose entry is another
pub record AreLooked (list : List Change) (S T : Tables) (looked changed : Prefix → Bool) : Type 0 where
  pub own : (q : Prefix) → own_in list q ≡ true → looked q ≡ true
  pub hop : (a : ℕ) → hop_in list S T a ≡ true → looked (host a) ≡ true
  pub near : (a : ℕ) → near_in list a ≡ true → looked (host a) ≡ true
  pub compared : (e : Prefix) → looked e ≡ true → changed e ≡ false → SameEntry S T e
  pub stays : (a : ℕ) → looked (host a) ≡ false → IsHosted S a
      → Contains (short_prefixes T) (cover S a) × (attached_at S (cover S a) ≡ attached_at T (cover S a))
  pub between : (a : ℕ) → looked (host a) ≡ false → (q c : Prefix) → IsHosted S a → Contains (short_prefixes T) q
      → (Contains (short_prefixes S) q → ⊥) → contains q a ≡ true → IsAbove S q c → cover S a ≢ c
  pub came : (a : ℕ) → looked (host a) ≡ false → (q : Prefix) (i : ℕ) → Contains (short_prefixes T) q
      → (Contains (short_prefixes S) q → attached_at S q ≢ attached_at T q) → contains q a ≡ true → attached_at T q ≡ Some i
      → HasNeighbor T i a → ⊥
  pub went : (a : ℕ) → looked (host a) ≡ false → (q c : Prefix) (i : ℕ) → Contains (short_prefixes S) q
      → (Contains (short_prefixes T) q → ⊥) → contains q a ≡ true → IsAbove T q c → attached_at T c ≡ Some i → HasNeighbor T i a → ⊥

-- next hops are addresses, and so are neighbors on the interface to which their cover attaches them
pub record AreAddresses (S T : Tables) : Type 0 where
  pub hops : (a : ℕ) → Contains (all_hops S) a → a < 2 ^ 32
  pub near : (i a : ℕ) → HasNeighbor S i a → attached_by S a ≡ Some i → a < 2 ^ 32
  pub near_after : (i a : ℕ) → HasNeighbor T i a → attached_by T a ≡ Some i → a < 2 ^ 32
