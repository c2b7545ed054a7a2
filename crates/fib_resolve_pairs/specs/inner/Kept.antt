-- What is kept beside tables is what they mean.
use Rattle.std.specs.Prelude.{◌≡◌, ◌<◌, ◌↔◌, ◌^◌, ℕ, List, length, Contains}
use Rattle.std.specs.HashMap.{HashMap, get}
use Rattle.fib_addr.specs.Prefixes.{Prefix, same_prefix}
use Rattle.fib_resolve.specs.Pairs.{base_pairs, pairs, entries, short_prefixes}
use Rattle.fib_resolve.specs.Tables.{IsSound}
use Rattle.fib_resolve.specs.declared.pairs.Pair.{Pair}
use Rattle.fib_resolve.specs.declared.types.Tables.{Tables}
use Rattle.fib_resolve_pairs.specs.Numbers.{number_in}

pub record AreCovers (S : Tables) (base : List Pair) (short : List Prefix) : Type 0 where
  pub sound : IsSound S
  pub base_are : base ≡ base_pairs S
  pub short_are : (p : Prefix) → Contains short p ↔ Contains (short_prefixes S) p

pub record IsKnown {H : Type 0} (S : Tables) (pair_list : List Pair) (entry_list : List Prefix)
    (numbers : HashMap Prefix ℕ H) : Type 0 where
  pub pairs_are : pair_list ≡ pairs S
  pub entries_are : entry_list ≡ entries S
  pub few : length entry_list < 2 ^ 32
  pub numbers_are : (p : Prefix) → get same_prefix numbers p ≡ number_in S p
