-- What stands at places of lists.
use Rattle.std.specs.Prelude.{◌≡◌, ◌<◌, ◌==◌, ◌++◌, ℕ, Bool, List, [], ◌∷◌, Option, Some, None, IfSome, length, slice_get}
use Rattle.std.specs.Hash as fed
use Rattle.std.specs.HashMap.{HashMap, get}
use Rattle.fib_addr.specs.Prefixes.{Prefix, same_prefix}
use Rattle.std.specs.List.{list_any, position_from}
use Rattle.fib_resolve.specs.Keys.{key_of, source_rank}
use Rattle.fib_resolve.specs.Pairs.{best_pair, is_address}
use Rattle.fib_resolve.specs.declared.pairs.Pair.{Pair}
use Rattle.fib_resolve.specs.declared.types.Address.{Address}
use Rattle.fib_resolve.specs.declared.types.Path.{Path}

-- the pair at that place, where there is a place
abbrev pub pair_at : List Pair → Option ℕ → Option Pair
pair_at xs None = None
pair_at xs (Some k) = slice_get xs k

-- the first place of each item, where the first of these stands at the place n
abbrev pub ArePlaces : {K H : Type 0} → (K → K → Bool) → ℕ → List K → HashMap K ℕ H → Type 0
ArePlaces {K} eq n xs places = (x : K) → get eq places x ≡ position_from (eq x) n xs

-- a place is known of each prefix that has a pair: that of its best source's
pub record AreBest {S : Type 0} (xs : List Pair) (places : HashMap Prefix ℕ S) : Type 0 where
  pub inside : (p : Prefix) → IfSome (get same_prefix places p) (λ k. k < length xs)
  pub best : (p : Prefix) → pair_at xs (get same_prefix places p) ≡ best_pair p xs

-- what a hasher is fed of a pair's paths, and of a pair
abbrev pub first_hash : List Path → fed.HashWrites
first_hash [] = []
first_hash (p ∷ ps) = fed.u32 (key_of p).next_hop ++ fed.u32 (key_of p).interface

abbrev pub pair_hash : Pair → fed.HashWrites
pair_hash x = fed.u32 x.prefix.bits ++ (fed.u8 x.prefix.len ++ (fed.u8 (source_rank x.source) ++ first_hash x.paths))

-- the numbers are the addresses of interfaces
abbrev pub AreOwn : List Address → List ℕ → Type 0
AreOwn addresses numbers = (x : ℕ) → list_any (λ n. x == n) numbers ≡ is_address addresses x
