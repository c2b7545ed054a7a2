-- Where the size of tables can be told to be another: entries that come or go and their plies, and Hop ends of changed entries.
use Rattle.std.specs.Prelude.{◌≡◌, ◌⊎◌, ◌↔◌, ◌+◌, ℕ, true, false, List, Contains, filter, length}
use Rattle.std.specs.List.{IsDistinct}
use Rattle.std.specs.Set.{is_member}
use Rattle.fib_addr.specs.Prefixes.{Prefix, same_prefix}
use Rattle.fib_resolve.specs.Pairs.{entries}
use Rattle.fib_resolve.specs.Sizes.{plies, plies_of, adjacencies, adjacencies_of, same_adjacency}
use Rattle.fib_resolve.specs.declared.pairs.Adjacency.{Adjacency}
use Rattle.fib_resolve.specs.declared.types.Tables.{Tables}

-- `moved` has the entries that come or go and may have others, `on_way` the plies on the way to these; `changed` the entries of which the
-- Hop ends can be others, and `ends` all that these have before or after
pub record AreMoves (S T : Tables) (moved on_way changed : List Prefix) (ends : List Adjacency) : Type 0 where
  pub moved_once : IsDistinct same_prefix moved
  pub on_way_once : IsDistinct same_prefix on_way
  pub ends_once : IsDistinct same_adjacency ends
  pub stays : (e : Prefix) → is_member same_prefix moved e ≡ false → Contains (entries S) e ↔ Contains (entries T) e
  pub ways : (e q : Prefix) → is_member same_prefix moved e ≡ true → Contains (plies_of e) q → Contains on_way q
  pub beside : (e : Prefix) → is_member same_prefix changed e ≡ false
      → (Contains (entries S) e ↔ Contains (entries T) e) × (adjacencies_of S e ≡ adjacencies_of T e)
  pub inside : (e : Prefix) (x : Adjacency) → is_member same_prefix changed e ≡ true
      → Contains (adjacencies_of S e) x ⊎ Contains (adjacencies_of T e) x → Contains ends x

-- how many of these are objects of the tables
abbrev pub there_of : Tables → List Prefix → List Prefix → List Adjacency → ℕ
there_of S moved on_way ends =
    length (filter (is_member same_prefix (plies S)) on_way) + length (filter (is_member same_prefix (entries S)) moved)
    + length (filter (is_member same_adjacency (adjacencies S)) ends)
