-- A set of prefixes, seen as the list of its members in order of bits, then length; its longest matches, and its members inside a prefix.
use Rattle.std.specs.Prelude.{◌≡◌, ℕ, ◌<◌, ◌≤◌, ◌&&◌, Bool, true, List, Option, Contains, MatchOption, nat_le}
use Rattle.std.specs.Ordering.{nat_cmp, ordering_then}
use Rattle.std.specs.declared.cmp.Ordering.{Ordering}
use Rattle.std.specs.List.Sorted.{IsStrictlySortedBy}
use Rattle.fib_addr.specs.Prefixes.{Prefix, IsPrefix, contains}

-- by bits, then by length
abbrev pub prefix_cmp : Prefix → Prefix → Ordering
prefix_cmp p q = ordering_then (nat_cmp p.bits q.bits) (nat_cmp p.len q.len)

-- each prefix stands once, in order
abbrev pub IsAscending : List Prefix → Type 0
IsAscending members = IsStrictlySortedBy prefix_cmp members

abbrev pub ArePrefixes : List Prefix → Type 0
ArePrefixes members = (p : Prefix) → Contains members p → IsPrefix p

-- a member that is shorter than the limit and contains the address; each member of a set is a prefix
pub record IsMatch (members : List Prefix) (limit a : ℕ) (p : Prefix) : Type 0 where
  pub prefix : IsPrefix p
  pub member : Contains members p
  pub short : p.len < limit
  pub matches : contains p a ≡ true

-- the answer is the longest match, None exactly where there is no match
abbrev pub IsLongestMatch : List Prefix → ℕ → ℕ → Option Prefix → Type 0
IsLongestMatch members limit a answer =
    MatchOption answer ((q : Prefix) → IsMatch members limit a q → ⊥)
    (λ p. IsMatch members limit a p × ((q : Prefix) → IsMatch members limit a q → q.len ≤ p.len))

-- q is at least as long as p, and its first address is one of p's
abbrev pub is_inside : Prefix → Prefix → Bool
is_inside p q = contains p q.bits && nat_le p.len q.len
