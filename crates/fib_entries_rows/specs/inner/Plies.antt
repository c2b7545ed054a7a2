-- The plies that an entry alone makes, told by the entries before and after it in order. No contract of a public call rests on this.
use Rattle.std.specs.Prelude.{◌≡◌, ℕ, ◌+◌, ◌-◌, ◌*◌, ◌<◌, ◌≤◌, Bool, ◌&&◌, ◌||◌, not, cond, zero, suc, false, List, Option, Some, None}
use Rattle.std.specs.Prelude.{slice_get, nat_lt, length}
use Rattle.std.specs.declared.cmp.Ordering.TheVariants.{Less}
use Rattle.fib_addr.specs.Prefixes.{Prefix, masked, same_prefix}
use Rattle.fib_cover.specs.Covers.{prefix_cmp}

-- the ply at that depth on the way to the first is on the way to the second too
abbrev pub is_on_way : Prefix → ℕ → Option Prefix → Bool
is_on_way p depth None = false
is_on_way p depth (Some e) = nat_lt (4 * depth) e.len && same_prefix (masked p.bits (4 * depth)) (masked e.bits (4 * depth))

-- it is on the way to neither of the two; the ply of all addresses is always there
abbrev pub is_own : Prefix → Option Prefix → Option Prefix → ℕ → Bool
is_own p before after depth = nat_lt 0 depth && not (is_on_way p depth before || is_on_way p depth after)

-- how many of the first plies on the way to p are on the way to neither
abbrev pub own_below : Prefix → Option Prefix → Option Prefix → ℕ → ℕ
own_below p before after zero = 0
own_below p before after (suc n) = own_below p before after n + cond (is_own p before after n) 1 0

-- the prefix before a place in order
abbrev pub before_of : List Prefix → ℕ → Option Prefix
before_of order zero = None
before_of order (suc k) = slice_get order k

-- p belongs between the prefixes before that place and those from there on
pub record IsGap (order : List Prefix) (place : ℕ) (p : Prefix) : Type 0 where
  pub inside : place ≤ length order
  pub before : (j : ℕ) (q : Prefix) → slice_get order j ≡ Some q → j < place → prefix_cmp q p ≡ Less
  pub after : (j : ℕ) (q : Prefix) → slice_get order j ≡ Some q → place ≤ j → prefix_cmp p q ≡ Less
