-- How sixteen buckets are shared among weighted paths.
use Rattle.std.specs.Prelude.{◌≡◌, ℕ, Bool, ◌+◌, ◌-◌, ◌*◌, ◌/◌, ◌%◌, ◌<◌, ◌≤◌, ◌==◌, ◌&&◌, ◌||◌, ◌⊎◌, List, flat_map, length, sum, sum_by}
use Rattle.std.specs.Prelude.{count_by, replicate, slice_get, Some, nat_lt, if◌then◌else◌, All}
use Rattle.std.specs.List.{enumerate_from}
use Rattle.std.specs.List.Sorted.{IsNonDecreasing}

-- the buckets that a weight first gets, where the weights have that sum
abbrev pub floor_of : ℕ → ℕ → ℕ
floor_of total w = 16 * w / total

abbrev pub rest_of : ℕ → ℕ → ℕ
rest_of total w = 16 * w % total

-- the buckets that are left
unfoldable pub extra : List ℕ → ℕ
extra ws = 16 - sum_by (floor_of (sum ws)) ws

-- a path, as its place and its weight, stands before another: its remainder is greater, or equal and its place is smaller
abbrev pub stands_before : ℕ → ℕ × ℕ → ℕ × ℕ → Bool
stands_before total p q = nat_lt (rest_of total q.1) (rest_of total p.1) || ((rest_of total p.1 == rest_of total q.1) && nat_lt p.0 q.0)

unfoldable pub count_before : List ℕ → ℕ × ℕ → ℕ
count_before ws q = count_by (λ p. stands_before (sum ws) p q) (enumerate_from 0 ws)

-- one bucket more where fewer paths stand before it than buckets are left
unfoldable pub share_of : List ℕ → ℕ × ℕ → ℕ
share_of ws p = floor_of (sum ws) p.1 + (if nat_lt (count_before ws p) (extra ws) then 1 else 0)

-- the place of each bucket's path, in consecutive runs
unfoldable pub buckets : List ℕ → List ℕ
buckets ws = flat_map (λ p. replicate (share_of ws p) p.0) (enumerate_from 0 ws)

-- how many of these buckets belong to the path at that place
abbrev pub count_of : List ℕ → ℕ → ℕ
count_of bs j = count_by (λ b. b == j) bs

-- what the rule means for the buckets of weighted paths
pub record IsFair (ws : List ℕ) (bs : List ℕ) : Type 0 where
  pub sixteen : length bs ≡ 16
  pub each_belongs : All (λ b. b < length ws) bs
  pub in_order : IsNonDecreasing bs
  -- each path has its floor, or one more
  pub near : (j w : ℕ) → slice_get ws j ≡ Some w → (count_of bs j ≡ floor_of (sum ws) w) ⊎ (count_of bs j ≡ floor_of (sum ws) w + 1)
  -- no path has more than one of at least its weight has, and one
  pub even : (i j v w : ℕ) → slice_get ws i ≡ Some v → slice_get ws j ≡ Some w → v ≤ w → count_of bs i ≤ count_of bs j + 1
