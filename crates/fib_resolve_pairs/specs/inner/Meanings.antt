-- What is kept beside tables is what they mean.
use Rattle.std.specs.Prelude.{◌≡◌, ◌↔◌, Bool, ℕ, List, find, option_map, Contains}
use Rattle.std.specs.HashMap.{HashMap, get}
use Rattle.fib_addr.specs.Prefixes.{Prefix}
use Rattle.fib_cover.specs.Covers.{IsAscending}
use Rattle.fib_resolve.specs.Pairs.{entries}
use Rattle.fib_resolve.specs.Resolution.{is_neighbor}
use Rattle.fib_resolve.specs.Sizes.{same_adjacency}
use Rattle.fib_resolve.specs.declared.pairs.Adjacency.{Adjacency}
use Rattle.fib_resolve.specs.declared.types.Neighbor.{Neighbor}
use Rattle.fib_resolve.specs.declared.types.Tables.{Tables}
use Rattle.fib_resolve_pairs.specs.inner.Edges.{edges_of, AreLooped, AreStarts}

-- for each interface and address, the MAC of its first neighbor
abbrev pub AreMacs : {H : Type 0} → List Neighbor → HashMap Adjacency ℕ H → Type 0
AreMacs neighbors macs =
    (i a : ℕ)
    → get same_adjacency macs (record { interface = i; next_hop = a }) ≡ option_map (λ n. n.mac) (find (is_neighbor i a) neighbors)

pub record IsMeaning {H : Type 0} (S : Tables) (order : List Prefix) (macs : HashMap Adjacency ℕ H) (on_cycles : List (ℕ × ℕ))
    (starts : List Bool) : Type 0 where
  pub order_is : (p : Prefix) → Contains order p ↔ Contains (entries S) p
  pub ordered : IsAscending order
  pub macs_are : AreMacs S.neighbors macs
  pub loops_are : AreLooped (edges_of S) on_cycles
  pub starts_are : AreStarts on_cycles starts
